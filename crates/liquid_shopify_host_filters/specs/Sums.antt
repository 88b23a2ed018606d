-- The filter `sum`.
use Rattle.std.specs.Prelude.{ℤ, pos, ◌+ℤ◌, if◌then◌else◌, List, [], ◌∷◌, Option, Some, None}
use Rattle.std.specs.Prelude.{Result, Ok, Err}
use Rattle.liquid_model.specs.Data.{Datum, nil, truth, number, object}
use Rattle.liquid_model.specs.Fallible.{◌>>=◌}
use Rattle.liquid_model.specs.Texts.{Text}
use Rattle.liquid_model.specs.Whole.{fits, whole}
use Rattle.liquid_model.specs.declared.error.ErrorKind.{ErrorKind}
use Rattle.liquid_model.specs.declared.error.ErrorKind.TheVariants.{InvalidInput, NumberRange}
use Rattle.liquid_model.specs.Arguments.{Answer}
use Rattle.liquid_filters.specs.Sequences.{sequence}
use Rattle.liquid_decimals.specs.Sums.{summed_name, term}

abbrev pub found_whole : Option ℤ → Result ℤ ErrorKind
found_whole (Some z) = Ok z
found_whole None = Err InvalidInput

-- nil, truth values and maps count as 0; any other value needs a whole number
abbrev pub summand_of : Datum → Result ℤ ErrorKind
summand_of nil = Ok (pos 0)
summand_of (truth b) = Ok (pos 0)
summand_of (object ms) = Ok (pos 0)
summand_of d = found_whole (whole d)

-- what isn't there adds nothing
abbrev pub summand : Option Datum → Result ℤ ErrorKind
summand (Some d) = summand_of d
summand None = Ok (pos 0)

-- a sum with one more term, within 64 bits
abbrev pub checked_sum : ℤ → Result ℤ ErrorKind
checked_sum z = if fits z then Ok z else Err NumberRange

abbrev pub sum_with_term : ℤ → Option Datum → Result ℤ ErrorKind
sum_with_term z t = summand t >>= (λ n. checked_sum (z +ℤ n))

-- a sum that goes on with the terms of these items, from the first to the last
abbrev pub total : Option Text → ℤ → List Datum → Result ℤ ErrorKind
total name z [] = Ok z
total name z (d ∷ ds) = sum_with_term z (term name d) >>= (λ t. total name t ds)

abbrev pub as_number : Result ℤ ErrorKind → Answer
as_number r = r >>= (λ z. Ok (number z))

-- `sum`: of a list's items, or of what its maps have under the argument
abbrev pub sum_answer : Datum → List Datum → Answer
sum_answer d args = as_number (total (summed_name args) (pos 0) (sequence d))
