-- The pieces of a text between the occurrences of another, from left to right and without overlap.
use Rattle.std.specs.Prelude.{ℕ, zero, suc, ◌-◌, List, [], ◌∷◌, ◌++◌, length, map, if◌then◌else◌}
use Rattle.std.specs.Char.{encode_utf8}
use Rattle.std.specs.Str.{chars}
use Rattle.liquid_model.specs.Texts.{Text}
use Rattle.liquid_model.specs.Text.{begins}

-- a byte before the first piece
abbrev pub push : ℕ → List Text → List Text
push b [] = (b ∷ []) ∷ []
push b (x ∷ xs) = (b ∷ x) ∷ xs

-- the pieces between the occurrences of p, where the first k bytes belong to an occurrence
abbrev pub pieces : Text → ℕ → Text → List Text
pieces p k [] = [] ∷ []
pieces p (suc k) (b ∷ s) = pieces p k s
pieces p zero (b ∷ s) = if begins p (b ∷ s) then [] ∷ pieces p (length p - 1) s else push b
    (pieces p zero s)

-- by the empty text, which occurs before each character and at the end: an empty piece, each
-- character, an empty piece
abbrev pub single_characters : Text → List Text
single_characters s = [] ∷ (map encode_utf8 (chars s) ++ ([] ∷ []))

abbrev pub split_by : Text → Text → List Text
split_by [] s = single_characters s
split_by (x ∷ p) s = pieces (x ∷ p) 0 s
