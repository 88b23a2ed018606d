-- Filters that change the case of letters: A to Z and a to z alone, all other characters stay.
use Rattle.std.specs.Prelude.{ℕ, List, [], ◌∷◌, map}
use Rattle.std.specs.Char.{to_ascii_lowercase, to_ascii_uppercase}
use Rattle.std.specs.Str.{chars, encode_utf8_all}
use Rattle.liquid_model.specs.Data.{Datum}
use Rattle.liquid_model.specs.Arguments.{Answer}
use Rattle.liquid_model.specs.Text.{of_text}

-- the first character in upper case
abbrev pub upper_first : List ℕ → List ℕ
upper_first [] = []
upper_first (c ∷ cs) = to_ascii_uppercase c ∷ cs

abbrev pub capitalized : List ℕ → List ℕ
capitalized s = encode_utf8_all (upper_first (chars s))

abbrev pub downcase_answer : Datum → List Datum → Answer
downcase_answer = of_text (map to_ascii_lowercase)

abbrev pub upcase_answer : Datum → List Datum → Answer
upcase_answer = of_text (map to_ascii_uppercase)

abbrev pub capitalize_answer : Datum → List Datum → Answer
capitalize_answer = of_text capitalized
