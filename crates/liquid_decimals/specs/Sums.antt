-- The filter `decimal_sum`.
use Rattle.std.specs.Prelude.{pos, List, [], ◌∷◌, Option, Some, None, Result, Ok, Err}
use Rattle.liquid_model.specs.Data.{Datum, text_of}
use Rattle.liquid_model.specs.Fallible.{◌>>=◌}
use Rattle.liquid_model.specs.Texts.{Text}
use Rattle.liquid_model.specs.declared.error.ErrorKind.{ErrorKind}
use Rattle.liquid_model.specs.declared.error.ErrorKind.TheVariants.{InvalidInput}
use Rattle.liquid_filters.specs.Sequences.{property, sequence}
use Rattle.liquid_decimals.specs.Decimals.{Decimal, operated}
use Rattle.liquid_decimals.specs.Readings.{decimal_or}
use Rattle.liquid_decimals.specs.declared.arithmetic.Operation.TheVariants.{Plus}

-- what of an item is added: the item, or its property of a name
abbrev pub term : Option Text → Datum → Option Datum
term None d = Some d
term (Some name) d = property name d

-- each item needs a decimal
abbrev pub term_decimal : Option Datum → Result Decimal ErrorKind
term_decimal (Some d) = decimal_or InvalidInput d
term_decimal None = Err InvalidInput

abbrev pub sum_with : Decimal → Option Datum → Result Decimal ErrorKind
sum_with t d = term_decimal d >>= operated Plus t

-- a sum that goes on with the terms of these items, from the first to the last
abbrev pub decimal_total : Option Text → Decimal → List Datum → Result Decimal ErrorKind
decimal_total name t [] = Ok t
decimal_total name t (d ∷ ds) = sum_with t (term name d) >>= (λ u. decimal_total name u ds)

abbrev pub zero : Decimal
zero = record { units = pos 0; places = 0 }

abbrev pub summed_name : List Datum → Option Text
summed_name [] = None
summed_name (name ∷ args) = Some (text_of name)

-- of a list's items, or of what its maps have under the argument
abbrev pub sum_of : Datum → List Datum → Result Decimal ErrorKind
sum_of d args = decimal_total (summed_name args) zero (sequence d)
