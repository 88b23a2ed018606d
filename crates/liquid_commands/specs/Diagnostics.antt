-- What is said of a place in a file, in three formats.
--     diagnostic_line format said      the line, with its end
use Rattle.std.specs.Prelude.{ℕ, Bool, cond, [], ◌++◌, codes}
use Rattle.std.specs.Fmt.{decimal}
use Rattle.liquid_commands.specs.Escapes.{DiagnosticText, escaped_for}
use Rattle.liquid_commands.specs.declared.diagnostic.Diagnostic.{Diagnostic}
use Rattle.liquid_commands.specs.declared.diagnostic.DiagnosticFormat.{DiagnosticFormat}
use Rattle.liquid_commands.specs.declared.diagnostic.DiagnosticFormat.TheVariants as format
use Rattle.liquid_commands.specs.declared.escaped.Place.TheVariants.{Line, Json, Message}
use Rattle.liquid_commands.specs.declared.escaped.Place.TheVariants.{Property}

abbrev pub numbers : ℕ → ℕ → DiagnosticText
numbers line column = codes ":" ++ (decimal line ++ (codes ":" ++ (decimal column ++ codes ": ")))

abbrev pub warning_mark : Bool → DiagnosticText
warning_mark is_warning = cond is_warning (codes "warning: ") []

abbrev pub severity : Bool → DiagnosticText
severity is_warning = cond is_warning (codes "warning") (codes "error")

-- `file:line:column: kind: message`, and `warning: ` before the kind of one
abbrev pub text_line : Diagnostic → DiagnosticText
text_line d = escaped_for Line d.path.now ++ (numbers d.line d.column ++ (warning_mark d.is_warning
    ++ (d.kind.now ++ (codes ": " ++ (d.message.now ++ codes "\n")))))

abbrev pub json_head : Diagnostic → DiagnosticText
json_head d = codes "{\"file\":\"" ++ (escaped_for Json d.path.now ++ (codes "\",\"line\":"
    ++ (decimal d.line ++ (codes ",\"column\":" ++ (decimal d.column ++ codes ",\"kind\":\"")))))

abbrev pub json_kind : Diagnostic → DiagnosticText
json_kind d = d.kind.now ++ (codes "\",\"severity\":\"" ++ severity d.is_warning)

abbrev pub json_message : Diagnostic → DiagnosticText
json_message d = codes "\",\"message\":\"" ++ (escaped_for Json d.message.now ++ codes "\"}\n")

abbrev pub json_line : Diagnostic → DiagnosticText
json_line d = json_head d ++ (json_kind d ++ json_message d)

abbrev pub command_head : Diagnostic → DiagnosticText
command_head d = codes "::" ++ (severity d.is_warning ++ (codes " file="
    ++ (escaped_for Property d.path.now ++ (codes ",line=" ++ (decimal d.line ++ (codes ",col="
    ++ decimal d.column))))))

abbrev pub command_line : Diagnostic → DiagnosticText
command_line d = command_head d ++ (codes ",title=" ++ (d.kind.now ++ (codes "::"
    ++ (escaped_for Message d.message.now ++ codes "\n"))))

abbrev pub diagnostic_line : DiagnosticFormat → Diagnostic → DiagnosticText
diagnostic_line format.Text d = text_line d
diagnostic_line format.Json d = json_line d
diagnostic_line format.Github d = command_line d
