-- Decimals as texts.
use Rattle.std.specs.Prelude.{unsigned_abs, ℕ, zero, suc, ◌+◌, ◌/◌, ◌%◌, ◌^◌, ◌==◌, ◌&&◌, nat_lt, ℤ}
use Rattle.std.specs.Prelude.{pos, negsuc, [], ◌∷◌, ◌++◌, length, codes, if◌then◌else◌}
use Rattle.std.specs.Fmt.{decimal}
use Rattle.liquid_model.specs.Texts.{Text}
use Rattle.liquid_decimals.specs.Decimals.{Decimal}

-- a separator stands before n digits where these are groups of three
abbrev pub separator_at : Text → ℕ → Text
separator_at separator n = if nat_lt 0 n && (n % 3 == 0) then separator else []

-- digits with a separator between groups of three, counted from the last
abbrev pub digit_groups : Text → Text → Text
digit_groups separator [] = []
digit_groups separator (d ∷ ds) = d ∷ (separator_at separator (length ds)
    ++ digit_groups separator ds)

abbrev pub minus_sign : ℤ → Text
minus_sign (pos n) = []
minus_sign (negsuc n) = codes "-"

-- the last p digits of a number, with zeros in front where it has fewer
abbrev pub last_digits : ℕ → ℕ → Text
last_digits zero n = []
last_digits (suc p) n = (48 + n / 10 ^ p % 10) ∷ last_digits p n

-- the places, with the point before them where there are any
abbrev pub fraction_text : Text → ℕ → ℕ → Text
fraction_text point zero n = []
fraction_text point (suc p) n = point ++ last_digits (suc p) n

-- a decimal with separators between the thousands and a point of its own
abbrev pub grouped_text : Text → Text → Decimal → Text
grouped_text thousands point d =
    (minus_sign d.units ++ digit_groups thousands (decimal (unsigned_abs d.units / 10 ^ d.places)))
    ++ fraction_text point d.places (unsigned_abs d.units)

-- as it is read, without separators
abbrev pub decimal_text : Decimal → Text
decimal_text d = grouped_text [] (codes ".") d
