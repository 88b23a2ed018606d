-- What a decimal text is brought to, by products of whole numbers.
use Rattle.std.specs.Prelude.{◌≡◌, ◌⊎◌, ℕ, ℤ, pos, ◌+ℤ◌, ◌-ℤ◌, ◌*ℤ◌, ◌≤ℤ◌, ◌<ℤ◌, ◌*◌, ◌^◌, ◌<◌, ◌≤◌}
use Rattle.std.specs.Prelude.{Bool, true, false, List, [], ◌∷◌, ◌++◌, length, Option, Some, None}
use Rattle.std.specs.Prelude.{Ok, Err, MatchBool, MatchOption, unsigned_abs}
use Rattle.std.specs.Str.Parse.{digits_value, starts_with_minus}
use Rattle.liquid_model.specs.Answer.{IsTheOne}
use Rattle.liquid_model.specs.Data.{Datum, number, text}
use Rattle.liquid_model.specs.Whole.{whole}
use Rattle.liquid_model.specs.declared.error.ErrorKind.TheVariants.{Float, InvalidArgument}
use Rattle.liquid_model.specs.declared.error.ErrorKind.TheVariants.{InvalidInput}
use Rattle.liquid_model.specs.Arguments.{Answer}
use Rattle.liquid_filters.specs.Decimals.{is_decimal, is_decimal_text, whole_digits}
use Rattle.liquid_filters.specs.Decimals.{fraction_digits}
use Rattle.liquid_filters.specs.Numbers.{in_range}
use Rattle.liquid_filters.specs.Rounding.{signed, round, rounded}
use Rattle.liquid_filters.specs.declared.stdlib.filters.math.decimal.Rounding.{Rounding}
use Rattle.liquid_filters.specs.declared.stdlib.filters.math.decimal.Rounding.TheVariants.{Nearest}
use Rattle.liquid_filters.specs.declared.stdlib.filters.math.decimal.Rounding.TheVariants.{Up}
use Rattle.liquid_filters.specs.declared.stdlib.filters.math.decimal.Rounding.TheVariants.{Down}

-- a decimal text is this whole number, which all its digits write, over the scale: ten to the
-- number of digits after the point
abbrev pub unscaled : List ℕ → ℤ
unscaled s = signed (starts_with_minus s) (digits_value 10 (whole_digits s ++ fraction_digits s))

abbrev pub scale : List ℕ → ℕ
scale s = 10 ^ length (fraction_digits s)

-- y, a multiple of d, is the one that n is brought to
abbrev pub IsMultipleFor : Rounding → ℤ → ℤ → ℕ → Type 0
-- at most half of d away, and where it is half of d away, further from 0
IsMultipleFor Nearest n y d = (2 * unsigned_abs (n -ℤ y) ≤ d) × (2 * unsigned_abs (n -ℤ y) ≡ d →
    unsigned_abs n < unsigned_abs y)
-- not below n, and less than d above it
IsMultipleFor Up n y d = (n ≤ℤ y) × (y <ℤ (n +ℤ pos d))
-- not above n, and less than d below it
IsMultipleFor Down n y d = (y ≤ℤ n) × (n <ℤ (y +ℤ pos d))

-- the answer is the whole number whose product with the scale is that multiple
abbrev pub IsBroughtTo : Rounding → List ℕ → Answer → Type 0
IsBroughtTo how s x = (z : ℤ) × IsMultipleFor how (unscaled s) (z *ℤ pos (scale s)) (scale s) ×
    (x ≡ in_range z)

abbrev pub IsRounded : Rounding → Option ℤ → Datum → Answer → Type 0
IsRounded how (Some n) d x = x ≡ Ok (number n)
IsRounded how None (text s) x = MatchBool (is_decimal s) (IsBroughtTo how s x) (x ≡
    Err InvalidInput)
IsRounded how None d x = x ≡ Err InvalidInput

abbrev pub RoundedIsOne : Type 0
RoundedIsOne = (how : Rounding) (d : Datum) → IsTheOne (IsRounded how (whole d) d) (rounded how d)

-- ---- with places after the point
-- no place is computed: a whole number stays, and a decimal text is Float
abbrev pub StaysWhole : Option ℤ → Bool → Answer → Type 0
StaysWhole (Some n) decimal x = x ≡ Ok (number n)
StaysWhole None true x = x ≡ Err Float
StaysWhole None false x = x ≡ Err InvalidInput

-- at most 0 places are as none, and more than 2147483647 are refused
abbrev pub RoundsTo : ℤ → Datum → Answer → Type 0
RoundsTo places d x =
    ((places ≤ℤ pos 0) × IsRounded Nearest (whole d) d x)
    ⊎ (((pos 2147483647 <ℤ places) × (x ≡ Err InvalidInput))
    ⊎ ((pos 0 <ℤ places) × (places ≤ℤ pos 2147483647) × StaysWhole (whole d) (is_decimal_text d) x))

-- the places are read first
abbrev pub Rounds : List Datum → Datum → Answer → Type 0
Rounds [] d x = IsRounded Nearest (whole d) d x
Rounds (e ∷ es) d x = MatchOption (whole e) (x ≡ Err InvalidArgument)
    (λ places. RoundsTo places d x)

abbrev pub RoundIsOne : Type 0
RoundIsOne = (d : Datum) (args : List Datum) → IsTheOne (Rounds args d) (round d args)
