-- How amounts of money are written, by the names of a shop's settings.
use Rattle.std.specs.Prelude.{List, Option, Some, None, bytes_eq, codes, if◌then◌else◌}
use Rattle.liquid_model.specs.Texts.{Text}
use Rattle.liquid_shopify_host_filters.specs.declared.money.MoneyStyle.{MoneyStyle}
use Rattle.liquid_shopify_host_filters.specs.declared.money.MoneyStyle.TheVariants.{Amount}
use Rattle.liquid_shopify_host_filters.specs.declared.money.MoneyStyle.TheVariants.{AmountNoDecimals}
use Rattle.liquid_shopify_host_filters.specs.declared.money.MoneyStyle.TheVariants.{AmountWithCommaSeparator}
use Rattle.liquid_shopify_host_filters.specs.declared.money.MoneyStyle.TheVariants.{AmountNoDecimalsWithCommaSeparator}
use Rattle.liquid_shopify_host_filters.specs.declared.money.MoneyStyle.TheVariants.{AmountWithApostropheSeparator}
use Rattle.liquid_shopify_host_filters.specs.declared.money.MoneyStyle.TheVariants.{AmountNoDecimalsWithSpaceSeparator}
use Rattle.liquid_shopify_host_filters.specs.declared.money.MoneyStyle.TheVariants.{AmountWithSpaceSeparator}
use Rattle.liquid_shopify_host_filters.specs.declared.money.MoneyStyle.TheVariants.{AmountWithPeriodAndSpaceSeparator}

-- the style of the placeholder of a name
abbrev pub style_named : Text → Option MoneyStyle
style_named s =
    if bytes_eq s (codes "amount") then Some Amount
    else (if bytes_eq s (codes "amount_no_decimals") then Some AmountNoDecimals
    else (if bytes_eq s (codes "amount_with_comma_separator") then Some AmountWithCommaSeparator
    else (if bytes_eq s (codes "amount_no_decimals_with_comma_separator")
    then Some AmountNoDecimalsWithCommaSeparator
    else (if bytes_eq s (codes "amount_with_apostrophe_separator")
    then Some AmountWithApostropheSeparator
    else (if bytes_eq s (codes "amount_no_decimals_with_space_separator")
    then Some AmountNoDecimalsWithSpaceSeparator
    else (if bytes_eq s (codes "amount_with_space_separator") then Some AmountWithSpaceSeparator
    else (if bytes_eq s (codes "amount_with_period_and_space_separator")
    then Some AmountWithPeriodAndSpaceSeparator else None)))))))

-- what stands between groups of three digits
abbrev pub thousands : MoneyStyle → Text
thousands Amount = codes ","
thousands AmountNoDecimals = codes ","
thousands AmountWithCommaSeparator = codes "."
thousands AmountNoDecimalsWithCommaSeparator = codes "."
thousands AmountWithApostropheSeparator = codes "'"
thousands AmountNoDecimalsWithSpaceSeparator = codes " "
thousands AmountWithSpaceSeparator = codes " "
thousands AmountWithPeriodAndSpaceSeparator = codes " "

-- what stands before the cents, where they are written
abbrev pub point : MoneyStyle → Option Text
point Amount = Some (codes ".")
point AmountNoDecimals = None
point AmountWithCommaSeparator = Some (codes ",")
point AmountNoDecimalsWithCommaSeparator = None
point AmountWithApostropheSeparator = Some (codes ".")
point AmountNoDecimalsWithSpaceSeparator = None
point AmountWithSpaceSeparator = Some (codes ",")
point AmountWithPeriodAndSpaceSeparator = Some (codes ".")
