-- A break of HTML before each newline. A newline is an ASCII letter, so a text is seen byte by
-- byte.
use Rattle.std.specs.Prelude.{ℕ, ◌==◌, List, [], ◌∷◌, ◌++◌, codes, if◌then◌else◌}
use Rattle.std.specs.Char.{encode_utf8}
use Rattle.std.specs.List.{flat_map}
use Rattle.liquid_model.specs.Data.{Datum}
use Rattle.liquid_model.specs.Texts.{Text}
use Rattle.liquid_model.specs.Arguments.{Answer}
use Rattle.liquid_model.specs.Text.{of_text}

abbrev pub broken_letter : ℕ → Text
broken_letter c = if c == 10 then codes "<br />" ++ (10 ∷ []) else encode_utf8 c

abbrev pub broken_byte : ℕ → Text
broken_byte b = if b == 10 then codes "<br />" ++ (10 ∷ []) else b ∷ []

abbrev pub broken : Text → Text
broken = flat_map broken_byte

abbrev pub newline_to_br_answer : Datum → List Datum → Answer
newline_to_br_answer = of_text broken
