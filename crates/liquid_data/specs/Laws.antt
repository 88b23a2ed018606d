-- Laws of data with any numbers.
--     WholeNumbersStay      where every number is whole, the data is that of the plain reader
--     RefusedAlike      a text that is refused is refused by the plain reader too, in the same way
--     FloatsAreRead      a text that the plain reader refuses for a number alone is read
use Rattle.std.specs.Prelude.{◌≡◌, ℕ, List, Some, Bool, true, ◌&&◌, is_some, Err, IsOk}
use Rattle.json.specs.Json as json
use Rattle.liquid_model.specs.declared.error.ErrorKind.{ErrorKind}
use Rattle.liquid_model.specs.declared.error.ErrorKind.TheVariants.{Float}
use Rattle.liquid_json.specs.Json.{data_of, integer_of_json_number}
use Rattle.liquid_json.specs.AnyNumbers.{json_of}
use Rattle.liquid_data.specs.Decimals.{spelled_data}

-- every number of a value is whole and within 64 bits
abbrev mutual
  pub is_whole : json.Json → Bool
  is_whole json.null = true
  is_whole (json.boolean b) = true
  is_whole (json.number s) = is_some (integer_of_json_number s)
  is_whole (json.string s) = true
  is_whole (json.array js) = are_whole js
  is_whole (json.object ms) = have_whole ms

  pub are_whole : json.Items → Bool
  are_whole json.no_items = true
  are_whole (json.item j js) = is_whole j && are_whole js

  pub have_whole : json.Members → Bool
  have_whole json.no_members = true
  have_whole (json.member k j ms) = is_whole j && have_whole ms

abbrev pub WholeNumbersStay : Type 0
WholeNumbersStay = (source : List ℕ) (j : json.Json) → json_of source ≡ Some j → is_whole j ≡ true
    → spelled_data source ≡ data_of source

abbrev pub RefusedAlike : Type 0
RefusedAlike = (source : List ℕ) (kind : ErrorKind) → spelled_data source ≡ Err kind
    → data_of source ≡ Err kind

abbrev pub FloatsAreRead : Type 0
FloatsAreRead = (source : List ℕ) → data_of source ≡ Err Float → IsOk (spelled_data source)
