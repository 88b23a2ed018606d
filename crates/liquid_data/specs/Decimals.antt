-- The data that a text of JSON gives, where a number that isn't whole, or is past 64 bits, is the
-- text of its spelling.
--     spelled_data source      the data of an object
use Rattle.std.specs.Prelude.{List, ℕ, Option, Some, Result, Ok, Err}
use Rattle.json.specs.Json as json
use Rattle.liquid_model.specs.Data.{Pairs, no_pairs}
use Rattle.liquid_model.specs.declared.error.ErrorKind.{ErrorKind}
use Rattle.liquid_model.specs.declared.error.ErrorKind.TheVariants.{InvalidInput}
use Rattle.liquid_json.specs.AnyNumbers.{decimals_pairs, json_of}

-- an object alone
abbrev pub decimals_object : Option json.Json → Result Pairs ErrorKind
decimals_object (Some (json.object ms)) = Ok (decimals_pairs no_pairs ms)
decimals_object _ = Err InvalidInput

-- the data that a text gives
abbrev pub spelled_data : List ℕ → Result Pairs ErrorKind
spelled_data source = decimals_object (json_of source)
