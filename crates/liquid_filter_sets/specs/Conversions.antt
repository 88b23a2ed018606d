-- Jekyll's filters that a converter answers: by a table of texts and what it made of each.
--     conversions_in name ps      the table of the filter of this name, as the data ps have it
--     conversion_answer table      what such a filter answers over a table
use Rattle.std.specs.Prelude.{List, [], ◌∷◌, Option, Some, None, Ok, Err, codes}
use Rattle.liquid_model.specs.Arguments.{Answer}
use Rattle.liquid_model.specs.Data.{Datum, nil, text, object, Pairs, text_of}
use Rattle.liquid_model.specs.Find.{value_at}
use Rattle.liquid_model.specs.Texts.{Text}
use Rattle.liquid_model.specs.declared.error.ErrorKind.TheVariants.{InvalidInput}
use Rattle.liquid_filters.specs.Ends.{or_nil}
use Rattle.liquid_filter_sets.specs.Settings.{text_in}
use Rattle.liquid_filter_sets.specs.declared.conversion.Converter.{Converter}
use Rattle.liquid_filter_sets.specs.declared.conversion.Converter.TheVariants as c

abbrev pub converter_name : Converter → Text
converter_name c.Markdownify = codes "markdownify"
converter_name c.Smartify = codes "smartify"

abbrev pub converters : List Converter
converters = c.Markdownify ∷ c.Smartify ∷ []

-- what a map has at a name; of another value nil
abbrev pub found_in : Text → Option Datum → Datum
found_in name (Some (object ps)) = or_nil (value_at name ps)
found_in name _ = nil

-- the table of a filter's name is what the map `conversions` of the data has there
abbrev pub conversions_in : Text → Pairs → Datum
conversions_in name ps = found_in name (value_at (codes "conversions") ps)

-- a text that the table lacks, or has without a text, is refused
abbrev pub conversion_by : Option Text → Answer
conversion_by None = Err InvalidInput
conversion_by (Some made) = Ok (text made)

-- what the table has under the input's text
abbrev pub conversion_answer : Datum → Datum → List Datum → Answer
conversion_answer table d args = conversion_by (text_in (text_of d) table)
