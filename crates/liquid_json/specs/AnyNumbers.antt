-- The data that a text of JSON gives where any number may stand: one that isn't whole, or is past
-- 64 bits, is the text of its spelling.
--     spelled_value source      the data of any value
use Rattle.std.specs.Prelude.{ℤ, List, ℕ, Option, Some, None, option_and_then, Result, Ok, Err}
use Rattle.json.specs.Json as json
use Rattle.json.specs.Lex.{tokens}
use Rattle.liquid_model.specs.Data.{Datum, nil, truth, number, text, array, object, Items, no_items}
use Rattle.liquid_model.specs.Data.{item, Pairs, no_pairs, put}
use Rattle.liquid_model.specs.declared.error.ErrorKind.{ErrorKind}
use Rattle.liquid_model.specs.declared.error.ErrorKind.TheVariants.{InvalidInput}
use Rattle.liquid_json.specs.Json.{integer_of_json_number}
use Rattle.serde_json.specs.Read.{max_depth}

-- a whole number, or the text of a spelling
abbrev pub number_or_text : List ℕ → Option ℤ → Datum
number_or_text s (Some z) = number z
number_or_text s None = text s

-- Each value as it stands. The pairs go in one after another, so the last value of a key stays.
abbrev mutual
  pub decimals_datum : json.Json → Datum
  decimals_datum json.null = nil
  decimals_datum (json.boolean b) = truth b
  decimals_datum (json.number s) = number_or_text s (integer_of_json_number s)
  decimals_datum (json.string s) = text s
  decimals_datum (json.array js) = array (decimals_items js)
  decimals_datum (json.object ms) = object (decimals_pairs no_pairs ms)

  pub decimals_items : json.Items → Items
  decimals_items json.no_items = no_items
  decimals_items (json.item j js) = item (decimals_datum j) (decimals_items js)

  pub decimals_pairs : Pairs → json.Members → Pairs
  decimals_pairs found json.no_members = found
  decimals_pairs found (json.member k j ms) = decimals_pairs (put k (decimals_datum j) found) ms

-- the value of JSON that a text is, nested no deeper than data may be
abbrev pub json_of : List ℕ → Option json.Json
json_of source =
    option_and_then (λ p. json.if_last p.0 p.1) (json.value max_depth (tokens source))

abbrev pub decimals_read : Option json.Json → Result Datum ErrorKind
decimals_read (Some j) = Ok (decimals_datum j)
decimals_read None = Err InvalidInput

-- one value of any kind
abbrev pub spelled_value : List ℕ → Result Datum ErrorKind
spelled_value source = decimals_read (json_of source)
