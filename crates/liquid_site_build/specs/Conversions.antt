-- What a text is converted to, as contracts see it.
use Rattle.std.specs.Prelude.{Option, Some, None, Result, Ok, Err, string_bytes}
use Rattle.liquid_model.specs.Texts.{Text}
use Rattle.liquid_site_build.specs.declared.conversion.Conversion.{Conversion}
use Rattle.liquid_site_build.specs.declared.conversion.Conversion.TheVariants.{Known, Unknown}

-- its conversion, or the text of which none is known
abbrev pub if_known : Text → Option Text → Result Text Text
if_known s None = Err s
if_known s (Some converted) = Ok converted

abbrev pub conversion_view : Conversion → Result Text Text
conversion_view (Known s) = Ok (string_bytes s)
conversion_view (Unknown s) = Err (string_bytes s)
