-- A stranger's text, as a format can hold it.
--     escaped_for place text      the text, as it is written in this place
use Rattle.std.specs.Prelude.{ℕ, cond, ◌==◌, ◌+◌, ◌/◌, ◌%◌, nat_lt, List, [], ◌∷◌, ◌++◌, codes}
use Rattle.std.specs.Prelude.{Option, Some, None}
use Rattle.std.specs.Char.{encode_utf8, is_control}
use Rattle.std.specs.Str.{chars}
use Rattle.liquid_commands.specs.declared.escaped.Place.{Place}
use Rattle.liquid_commands.specs.declared.escaped.Place.TheVariants.{Line, Json, Message}
use Rattle.liquid_commands.specs.declared.escaped.Place.TheVariants.{Property}

abbrev pub DiagnosticText : Type 0
DiagnosticText = List ℕ

abbrev pub shown_or : ℕ → Option DiagnosticText → DiagnosticText
shown_or c None = encode_utf8 c
shown_or c (Some escape) = escape

-- a line for people has no control character
abbrev pub line_escape : ℕ → Option DiagnosticText
line_escape c = cond (is_control c) (Some (codes "?")) None

-- what would end a command's message, and the sign of these escapes
abbrev pub message_escape : ℕ → Option DiagnosticText
message_escape c = cond (c == 37) (Some (codes "%25"))
    (cond (c == 13) (Some (codes "%0D")) (cond (c == 10) (Some (codes "%0A")) None))

-- what would end a property, too
abbrev pub property_escape : ℕ → Option DiagnosticText
property_escape c = cond (c == 58) (Some (codes "%3A"))
    (cond (c == 44) (Some (codes "%2C")) (message_escape c))

-- a digit of base 16, small
abbrev pub hex_digit : ℕ → ℕ
hex_digit d = cond (nat_lt d 10) (48 + d) (87 + d)

-- a control character, whose number is below 256
abbrev pub control_escape : ℕ → DiagnosticText
control_escape c = codes "\\u00" ++ (encode_utf8 (hex_digit (c / 16 % 16))
    ++ encode_utf8 (hex_digit (c % 16)))

-- a quote and a backslash have a backslash before them
abbrev pub shown_in_json : ℕ → DiagnosticText
shown_in_json c = cond (is_control c) (control_escape c)
    (cond (c == 34) (92 ∷ 34 ∷ []) (cond (c == 92) (92 ∷ 92 ∷ []) (encode_utf8 c)))

abbrev pub shown_in : Place → ℕ → DiagnosticText
shown_in Json c = shown_in_json c
shown_in Line c = shown_or c (line_escape c)
shown_in Message c = shown_or c (message_escape c)
shown_in Property c = shown_or c (property_escape c)

abbrev pub all_shown : Place → List ℕ → DiagnosticText
all_shown place [] = []
all_shown place (c ∷ cs) = shown_in place c ++ all_shown place cs

abbrev pub escaped_for : Place → DiagnosticText → DiagnosticText
escaped_for place text = all_shown place (chars text)
