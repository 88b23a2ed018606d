-- Texts in a row with a separator between them.
use Rattle.std.specs.Prelude.{List, [], ◌∷◌, ◌++◌}
use Rattle.liquid_model.specs.Texts.{Text}

-- each text with the separator before it
abbrev pub joined_rest : Text → List Text → Text
joined_rest separator [] = []
joined_rest separator (t ∷ ts) = separator ++ (t ++ joined_rest separator ts)

-- the texts with the separator between them
abbrev pub joined : Text → List Text → Text
joined separator [] = []
joined separator (t ∷ ts) = t ++ joined_rest separator ts
