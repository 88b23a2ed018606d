-- A decimal text is a whole number over a power of ten, with a sign; brought to a whole number.
use Rattle.std.specs.Prelude.{ℕ, ℤ, pos, neg_ℤ, ◌+◌, ◌-◌, ◌*◌, ◌^◌, ◌/◌, Bool, true, false, ◌==◌}
use Rattle.std.specs.Prelude.{not, nat_le, int_le, int_lt, List, [], ◌∷◌, ◌++◌, length, Option}
use Rattle.std.specs.Prelude.{Some, None, Ok, Err, if◌then◌else◌, slice_index}
use Rattle.std.specs.List.{list_any}
use Rattle.std.specs.Str.Parse.{digits_value, starts_with_minus}
use Rattle.liquid_model.specs.Data.{Datum, number, text}
use Rattle.liquid_model.specs.Fallible.{◌>>=◌}
use Rattle.liquid_model.specs.Whole.{whole}
use Rattle.liquid_model.specs.declared.error.ErrorKind.TheVariants.{InvalidInput, Float}
use Rattle.liquid_model.specs.Arguments.{Answer, whole_or_fault}
use Rattle.liquid_filters.specs.Decimals.{is_decimal, is_decimal_text, whole_digits}
use Rattle.liquid_filters.specs.Decimals.{fraction_digits}
use Rattle.liquid_filters.specs.Numbers.{in_range}
use Rattle.liquid_filters.specs.declared.stdlib.filters.math.decimal.Rounding.{Rounding}
use Rattle.liquid_filters.specs.declared.stdlib.filters.math.decimal.Rounding.TheVariants.{Nearest}
use Rattle.liquid_filters.specs.declared.stdlib.filters.math.decimal.Rounding.TheVariants.{Up}
use Rattle.liquid_filters.specs.declared.stdlib.filters.math.decimal.Rounding.TheVariants.{Down}

-- n over s to a whole number: away from zero from a half on; away from zero; towards zero
abbrev pub nearest : ℕ → ℕ → ℕ
nearest n s = (2 * n + s) / (2 * s)

abbrev pub away : ℕ → ℕ → ℕ
away n s = (n + (s - 1)) / s

abbrev pub towards : ℕ → ℕ → ℕ
towards n s = n / s

-- the size of n over s, signed, brought to a whole number
unfoldable pub magnitude : Rounding → Bool → ℕ → ℕ → ℕ
magnitude Nearest negative n s = nearest n s
magnitude Up true n s = towards n s
magnitude Up false n s = away n s
magnitude Down true n s = away n s
magnitude Down false n s = towards n s

abbrev pub signed : Bool → ℕ → ℤ
signed negative m = if negative then neg_ℤ (pos m) else pos m

-- the size of the answer, of the digits before and after the point: all of them are the number, and
-- the scale is ten to the number of the latter
abbrev pub size : Rounding → Bool → List ℕ → List ℕ → ℕ
size how negative ws fs = magnitude how negative (digits_value 10 (ws ++ fs)) (10 ^ length fs)

-- the number that a decimal text is brought to, or NumberRange
abbrev pub rounded_decimal : Rounding → List ℕ → Answer
rounded_decimal how s =
    in_range (signed (starts_with_minus s) (size how (starts_with_minus s) (whole_digits s)
    (fraction_digits s)))

-- a whole number stays; a decimal text is brought to one; else refused
abbrev pub rounded_of : Rounding → Option ℤ → Datum → Answer
rounded_of how (Some n) d = Ok (number n)
rounded_of how None (text s) = if is_decimal s then rounded_decimal how s else Err InvalidInput
rounded_of how None d = Err InvalidInput

abbrev pub rounded : Rounding → Datum → Answer
rounded how d = rounded_of how (whole d) d

-- with places after the point: a whole number stays, and a decimal text is refused
abbrev pub unrounded_of : Option ℤ → Bool → Answer
unrounded_of (Some n) decimal = Ok (number n)
unrounded_of None true = Err Float
unrounded_of None false = Err InvalidInput

abbrev pub most_places : ℤ
most_places = pos 2147483647

abbrev pub rounded_to : ℤ → Datum → Answer
rounded_to places d =
    if int_le places (pos 0) then rounded Nearest d
    else (if int_lt most_places places then Err InvalidInput
    else unrounded_of (whole d) (is_decimal_text d))

-- the places are read before the input is looked at
abbrev pub rounded_by : Datum → Datum → Answer
rounded_by d e = whole_or_fault e >>= λ places. rounded_to places d

abbrev pub round : Datum → List Datum → Answer
round d [] = rounded Nearest d
round d (e ∷ es) = rounded_by d e

-- what the code looks at: a digit of 5 or more after the point, any digit but 0 there
abbrev pub goes_away : Rounding → Bool → List ℕ → Bool
goes_away Nearest negative fs = nat_le 53 (slice_index fs 0)
goes_away Up negative fs = if negative then false else list_any (λ b. not (b == 48)) fs
goes_away Down negative fs = if negative then list_any (λ b. not (b == 48)) fs else false
