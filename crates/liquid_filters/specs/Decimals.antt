-- Decimal texts: an optional sign, digits, and optionally a point and more digits.
use Rattle.std.specs.Prelude.{◌≡◌, ℕ, ℤ, Option, Some, None, Bool, true, ◌&&◌, ◌==◌, false, nat_lt}
use Rattle.std.specs.Prelude.{List, length, if◌then◌else◌}
use Rattle.std.specs.List.{position_or_len, before_first, after_first}
use Rattle.std.specs.Str.{all_ascii_digits}
use Rattle.std.specs.Str.Parse.{without_leading_sign, starts_with_minus}
use Rattle.liquid_model.specs.Data.{Datum, text}
use Rattle.liquid_model.specs.Whole.{fits}

-- a number of 64 bits
abbrev pub if_fits : ℤ → Option ℤ
if_fits z = if fits z then Some z else None

-- one digit or more
abbrev pub is_numeral : List ℕ → Bool
is_numeral ds = nat_lt 0 (length ds) && all_ascii_digits ds

abbrev pub is_point : ℕ → Bool
is_point b = b == 46

abbrev pub has_point : List ℕ → Bool
has_point s = nat_lt (position_or_len is_point s) (length s)

-- digits, and where a point follows, digits after it
abbrev pub is_cut : List ℕ → Bool
is_cut s = is_numeral (before_first is_point s) &&
    (if has_point s then is_numeral (after_first is_point s) else true)

abbrev pub is_decimal : List ℕ → Bool
is_decimal s = is_cut (without_leading_sign s)

-- the digits before the point
abbrev pub whole_digits : List ℕ → List ℕ
whole_digits s = before_first is_point (without_leading_sign s)

-- the digits after the point, or none
abbrev pub fraction_digits : List ℕ → List ℕ
fraction_digits s = after_first is_point (without_leading_sign s)

-- the sign and the digits are those of the decimal text s
pub record IsReadFrom (s : List ℕ) (negative : Bool) (whole fraction : List ℕ) : Type 0 where
  pub decimal : is_decimal s ≡ true
  pub sign : negative ≡ starts_with_minus s
  pub before : whole ≡ whole_digits s
  pub after : fraction ≡ fraction_digits s

abbrev pub is_decimal_text : Datum → Bool
is_decimal_text (text s) = is_decimal s
is_decimal_text _ = false
