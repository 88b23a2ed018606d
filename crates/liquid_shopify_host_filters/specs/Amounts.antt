-- Amounts of money as texts.
use Rattle.std.specs.Prelude.{unsigned_abs, ℕ, suc, ◌+◌, ◌/◌, ◌%◌, ◌==◌, ◌&&◌, nat_lt, ℤ, pos}
use Rattle.std.specs.Prelude.{negsuc, List, [], ◌∷◌, ◌++◌, length, Option, Some, None, codes}
use Rattle.std.specs.Prelude.{if◌then◌else◌}
use Rattle.std.specs.Fmt.{decimal}
use Rattle.liquid_model.specs.Texts.{Text}
use Rattle.liquid_decimals.specs.Written.{digit_groups, minus_sign}
use Rattle.liquid_shopify_host_filters.specs.Styles.{point, thousands}
use Rattle.liquid_shopify_host_filters.specs.declared.money.MoneyStyle.{MoneyStyle}

abbrev pub two_decimal_digits : ℕ → Text
two_decimal_digits n = decimal (n / 10) ++ decimal (n % 10)

-- the sign of what is written: none where that is rounded to 0
abbrev pub amount_sign : Option Text → ℤ → Text
amount_sign p (pos n) = []
amount_sign (Some p) (negsuc n) = codes "-"
amount_sign None (negsuc n) = if nat_lt n 49 then [] else codes "-"

-- the units of n cents: rounded, half of one up, where no cents are written
abbrev pub units_of : Option Text → ℕ → ℕ
units_of (Some p) n = n / 100
units_of None n = (n + 50) / 100

-- the cents with the point before them, where they are written
abbrev pub cents_text : Option Text → ℕ → Text
cents_text (Some p) n = p ++ two_decimal_digits n
cents_text None n = []

-- the units of n cents in a style
abbrev pub units_text : MoneyStyle → ℕ → Text
units_text style n = digit_groups (thousands style) (decimal (units_of (point style) n))

-- an amount of cents: sign, units and cents
abbrev pub amount_of : MoneyStyle → ℤ → Text
amount_of style z =
    (amount_sign (point style) z ++ units_text style (unsigned_abs z))
    ++ cents_text (point style) (unsigned_abs z % 100)

-- the whole units of an amount of cents
abbrev pub whole_amount : MoneyStyle → ℤ → Text
whole_amount style z = minus_sign z ++ digit_groups (thousands style)
    (decimal (unsigned_abs z / 100))
