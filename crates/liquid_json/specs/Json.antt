-- The data that a text of JSON gives.
--     data_of source      the data of an object
--     value_in source      the data of any value
use Rattle.std.specs.Prelude.{ℕ, ℤ, List, Option, Some, None, option_and_then, Result, Ok, Err}
use Rattle.liquid_model.specs.Fallible.{◌>>=◌}
use Rattle.liquid_model.specs.Data.{Datum, nil, truth, number, text, array, object, Items, no_items}
use Rattle.liquid_model.specs.Data.{item, Pairs, no_pairs, pair}
use Rattle.liquid_model.specs.declared.error.ErrorKind.{ErrorKind}
use Rattle.liquid_model.specs.declared.error.ErrorKind.TheVariants.{InvalidInput, Float}
use Rattle.serde_json.specs.Data as json
use Rattle.serde_json.specs.Find.{as_i64}
use Rattle.serde_json.specs.Read.{number_of, read}

-- the whole number of 64 bits that a number of JSON writes; `-0` is none
abbrev pub integer_of_json_number : List ℕ → Option ℤ
integer_of_json_number s = option_and_then as_i64 (number_of s)

abbrev pub whole_number : Option ℤ → Result Datum ErrorKind
whole_number (Some z) = Ok (number z)
whole_number None = Err Float

-- each value as it stands, and a fault where a number is not whole or past 64 bits
abbrev mutual
  pub datum_of : json.Data → Result Datum ErrorKind
  datum_of json.null = Ok nil
  datum_of (json.boolean b) = Ok (truth b)
  datum_of (json.number n) = whole_number (as_i64 n)
  datum_of (json.string s) = Ok (text s)
  datum_of (json.array ds) = parsed_items ds >>= λ es. Ok (array es)
  datum_of (json.object ms) = parsed_pairs ms >>= λ ps. Ok (object ps)

  pub parsed_items : json.Items → Result Items ErrorKind
  parsed_items json.no_items = Ok no_items
  parsed_items (json.item d ds) = datum_of d >>= λ e. parsed_items ds >>= λ es. Ok (item e es)

  pub parsed_pairs : json.Members → Result Pairs ErrorKind
  parsed_pairs json.no_members = Ok no_pairs
  parsed_pairs (json.member k d ms) = datum_of d >>= λ e. parsed_pairs ms >>= λ ps. Ok (pair k e ps)

-- an object alone
abbrev pub parsed_object : json.Data → Result Pairs ErrorKind
parsed_object (json.object ms) = parsed_pairs ms
parsed_object _ = Err InvalidInput

abbrev pub object_read : Option json.Data → Result Pairs ErrorKind
object_read (Some d) = parsed_object d
object_read None = Err InvalidInput

-- the data that a text gives
abbrev pub data_of : List ℕ → Result Pairs ErrorKind
data_of source = object_read (read source)

abbrev pub value_if_read : Option json.Data → Result Datum ErrorKind
value_if_read (Some d) = datum_of d
value_if_read None = Err InvalidInput

-- one value of any kind
abbrev pub value_in : List ℕ → Result Datum ErrorKind
value_in source = value_if_read (read source)
