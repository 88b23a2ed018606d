-- Texts in which marked bytes give way to their escapes. Each mark is an ASCII character, so a text
-- is seen byte by byte.
use Rattle.std.specs.Prelude.{ℕ, Bool, ◌||◌, ◌==◌, List, ◌∷◌, [], codes, if◌then◌else◌}
use Rattle.std.specs.List.{flat_map}
use Rattle.liquid_model.specs.Data.{Datum}
use Rattle.liquid_model.specs.Texts.{Text}
use Rattle.liquid_model.specs.Arguments.{Answer}
use Rattle.liquid_model.specs.Text.{of_text}

-- `"`, `&`, `'`, `<` and `>`
abbrev pub is_marked : ℕ → Bool
is_marked b = b == 34 || b == 38 || b == 39 || b == 60 || b == 62

-- the escape of a marked byte
abbrev pub mark_escape : ℕ → Text
mark_escape b =
    if b == 34 then codes "&quot;" else (if b == 38 then codes "&amp;"
    else (if b == 39 then codes "&apos;"
    else (if b == 60 then codes "&lt;" else codes "&gt;")))

-- a marked byte's escape, or the byte
abbrev pub byte_unless_marked : ℕ → Text
byte_unless_marked b = if is_marked b then mark_escape b else b ∷ []

abbrev pub escaped : Text → Text
escaped = flat_map byte_unless_marked

-- `xml_escape`
abbrev pub xml_escape_answer : Datum → List Datum → Answer
xml_escape_answer = of_text escaped
