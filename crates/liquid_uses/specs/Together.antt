-- What several templates ask of the same data.
use Rattle.std.specs.Prelude.{◌≡◌, true}
use Rattle.liquid_model.specs.Texts.{Text}
use Rattle.liquid_model.specs.Uses.{Use, includes}

-- of each name all is asked that V asks for, so data that are alike in U are alike in V
abbrev pub AsksAll : (Text → Use) → (Text → Use) → Type 0
AsksAll U V = (name : Text) → includes (U name) (V name) ≡ true
