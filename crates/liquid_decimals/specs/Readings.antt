-- Which values are decimals: whole numbers, and texts as `-19.99`.
use Rattle.std.specs.Prelude.{ℕ, nat_le, ℤ, pos, negsuc, Bool, List, ◌++◌, length, Option, Some}
use Rattle.std.specs.Prelude.{None, Result, Ok, Err, if◌then◌else◌}
use Rattle.std.specs.Str.Parse.{digits_value, starts_with_minus}
use Rattle.liquid_model.specs.Data.{Datum, number, text}
use Rattle.liquid_model.specs.Fallible.{◌>>=◌}
use Rattle.liquid_model.specs.Arguments.{whole_or_fault}
use Rattle.liquid_model.specs.declared.error.ErrorKind.{ErrorKind}
use Rattle.liquid_model.specs.declared.error.ErrorKind.TheVariants.{InvalidArgument}
use Rattle.liquid_filters.specs.Decimals.{is_decimal, whole_digits, fraction_digits}
use Rattle.liquid_filters.specs.Rounding.{signed}
use Rattle.liquid_decimals.specs.Decimals.{Decimal, bounded, most_decimal_places}

-- all digits are the units, and those after the point the places
abbrev pub of_digits : Bool → List ℕ → List ℕ → Result Decimal ErrorKind
of_digits negative ws fs = bounded (signed negative (digits_value 10 (ws ++ fs))) (length fs)

abbrev pub of_decimal_text : List ℕ → Result Decimal ErrorKind
of_decimal_text s = of_digits (starts_with_minus s) (whole_digits s) (fraction_digits s)

abbrev pub found_decimal : Result Decimal ErrorKind → Result (Option Decimal) ErrorKind
found_decimal r = r >>= (λ d. Ok (Some d))

-- the decimal that a value is, where it is one
abbrev pub decimal_in : Datum → Result (Option Decimal) ErrorKind
decimal_in (number z) = Ok (Some (record { units = z; places = 0 }))
decimal_in (text s) = if is_decimal s then found_decimal (of_decimal_text s) else Ok None
decimal_in _ = Ok None

abbrev pub found_or : ErrorKind → Option Decimal → Result Decimal ErrorKind
found_or kind (Some d) = Ok d
found_or kind None = Err kind

-- the decimal that a value is, or the kind of the fault of one that isn't
abbrev pub decimal_or : ErrorKind → Datum → Result Decimal ErrorKind
decimal_or kind d = decimal_in d >>= found_or kind

abbrev pub places_within : ℤ → Result ℕ ErrorKind
places_within (pos n) = if nat_le n most_decimal_places then Ok n else Err InvalidArgument
places_within (negsuc n) = Err InvalidArgument

-- a number of places, from 0 to 18
abbrev pub places_or_fault : Datum → Result ℕ ErrorKind
places_or_fault d = whole_or_fault d >>= places_within
