-- Data in the form that is asked for.
--     data_in_form form source      the data of a text of JSON, an object
--     value_in_form form source      the data of a text of JSON, any value
--     text_in_form form s      a text that is given
--     put_all members ps      data with each of these members
--     with_now s ps      data with an instant under the name `now`, where the text is one
use Rattle.std.specs.Prelude.{Bool, cond, List, ℕ, codes, Option, option_map, Result, Ok, Err}
use Rattle.liquid_model.specs.Data.{Datum, Pairs, no_pairs, pair, put, text}
use Rattle.liquid_model.specs.Texts.{Text}
use Rattle.liquid_model.specs.declared.error.ErrorKind.{ErrorKind}
use Rattle.liquid_json.specs.Json.{data_of, value_in}
use Rattle.liquid_data.specs.Dates.{dated_datum, dated_pairs}
use Rattle.liquid_json.specs.AnyNumbers.{spelled_value}
use Rattle.liquid_data.specs.Decimals.{spelled_data}
use Rattle.liquid_data.specs.Instants.{date_spelling}
use Rattle.liquid_data.specs.declared.forms.DataForm.{DataForm}

-- with any numbers, or whole ones alone
abbrev pub read_data : Bool → List ℕ → Result Pairs ErrorKind
read_data decimals source = cond decimals (spelled_data source) (data_of source)

-- with its dates in the language's spelling, or as it is
abbrev pub with_dates_spelled : Bool → Pairs → Pairs
with_dates_spelled dates ps = cond dates (dated_pairs ps) ps

abbrev pub formed : Bool → Result Pairs ErrorKind → Result Pairs ErrorKind
formed dates (Ok ps) = Ok (with_dates_spelled dates ps)
formed dates (Err kind) = Err kind

abbrev pub data_in_form : DataForm → List ℕ → Result Pairs ErrorKind
data_in_form form source = formed form.dates (read_data form.decimals_as_texts source)

abbrev pub read_value : Bool → List ℕ → Result Datum ErrorKind
read_value decimals source = cond decimals (spelled_value source) (value_in source)

abbrev pub datum_in_form : Bool → Datum → Datum
datum_in_form dates d = cond dates (dated_datum d) d

abbrev pub formed_value : Bool → Result Datum ErrorKind → Result Datum ErrorKind
formed_value dates (Ok d) = Ok (datum_in_form dates d)
formed_value dates (Err kind) = Err kind

-- the same of one value, which may be of any kind
abbrev pub value_in_form : DataForm → List ℕ → Result Datum ErrorKind
value_in_form form source = formed_value form.dates (read_value form.decimals_as_texts source)

-- a text, which may be a date
abbrev pub text_in_form : DataForm → Text → Datum
text_in_form form s = datum_in_form form.dates (text s)

-- each of these members in place of what stands under its name
abbrev pub put_all : Pairs → Pairs → Pairs
put_all no_pairs ps = ps
put_all (pair k d members) ps = put_all members (put k d ps)

abbrev pub with_now : Text → Pairs → Option Pairs
with_now now ps = option_map (λ s. put (codes "now") (text s) ps) (date_spelling now)
