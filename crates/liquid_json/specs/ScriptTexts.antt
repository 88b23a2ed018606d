-- Values as texts of JSON that can stand in a `<script>`.
use Rattle.std.specs.Prelude.{◌≡◌, ℕ, Bool, false, ◌||◌, ◌==◌, List, ◌∷◌, [], All, codes}
use Rattle.std.specs.Prelude.{if◌then◌else◌}
use Rattle.std.specs.List.{flat_map}
use Rattle.liquid_model.specs.Data.{Datum}
use Rattle.liquid_model.specs.Texts.{Text}
use Rattle.liquid_json.specs.JsonTexts.{json_text}

-- `<`, `>` and `&`: JSON has them in strings alone
abbrev pub is_script_mark : ℕ → Bool
is_script_mark b = b == 60 || b == 62 || b == 38

-- a mark by its number, which a string of JSON may have in its place
abbrev pub script_escape : ℕ → Text
script_escape b =
    if b == 60 then codes "\\u003c" else (if b == 62 then codes "\\u003e" else codes "\\u0026")

abbrev pub script_byte : ℕ → Text
script_byte b = if is_script_mark b then script_escape b else b ∷ []

-- the text without its marks
abbrev pub for_script : Text → Text
for_script = flat_map script_byte

abbrev pub script_json : Datum → Text
script_json d = for_script (json_text d)

-- nothing in the text ends a script, or begins a tag, a comment or a reference of HTML
abbrev pub HasNoMarks : Text → Type 0
HasNoMarks = All (λ b. is_script_mark b ≡ false)
