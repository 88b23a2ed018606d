-- Literals of a template.
--     literal_of x      the value of an expression that is a literal
--     own_text d      the text that a value is, where it is one
use Rattle.std.specs.Prelude.{Option, Some, None}
use Rattle.liquid_model.specs.Data.{Datum, text}
use Rattle.liquid_model.specs.Texts.{Text}
use Rattle.liquid_core.specs.Expression.{Expression, literal, variable}

abbrev pub literal_of : Expression → Option Datum
literal_of (literal d) = Some d
literal_of (variable name steps) = None

abbrev pub own_text : Datum → Option Text
own_text (text s) = Some s
own_text _ = None

abbrev pub text_found : Option Datum → Option Text
text_found None = None
text_found (Some d) = own_text d
