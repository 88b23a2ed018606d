-- The filter `size`.
use Rattle.std.specs.Prelude.{ℕ, List, length, Ok}
use Rattle.liquid_model.specs.Data.{Datum, nil, truth, number, text, array, object, text_of}
use Rattle.liquid_model.specs.Digest.{items_len, pairs_len}
use Rattle.liquid_model.specs.Find.{counted}
use Rattle.liquid_model.specs.Arguments.{Answer}

-- the bytes of a scalar's text, the items of a list, the pairs of a map, and 0 for nil
abbrev pub size_of : Datum → ℕ
size_of nil = 0
size_of (truth b) = length (text_of (truth b))
size_of (number z) = length (text_of (number z))
size_of (text s) = length s
size_of (array ds) = items_len ds
size_of (object ms) = pairs_len ms

abbrev pub size_answer : Datum → List Datum → Answer
size_answer d args = Ok (counted (size_of d))
