-- Which filters there are: their names, and how many arguments each takes.
use Rattle.std.specs.Prelude.{ℕ, Bool, ◌&&◌, nat_le, codes}
use Rattle.liquid_model.specs.Texts.{Text}
use Rattle.liquid_decimals.specs.declared.filter.DecimalFilter.{DecimalFilter}
use Rattle.liquid_decimals.specs.declared.filter.DecimalFilter.TheVariants as d

-- the name by which templates call a filter
abbrev pub decimal_filter_name : DecimalFilter → Text
decimal_filter_name d.AtLeast = codes "decimal_at_least"
decimal_filter_name d.AtMost = codes "decimal_at_most"
decimal_filter_name d.Compare = codes "decimal_compare"
decimal_filter_name d.DividedBy = codes "decimal_divided_by"
decimal_filter_name d.Format = codes "decimal_format"
decimal_filter_name d.Minus = codes "decimal_minus"
decimal_filter_name d.Plus = codes "decimal_plus"
decimal_filter_name d.Round = codes "decimal_round"
decimal_filter_name d.Sum = codes "decimal_sum"
decimal_filter_name d.Times = codes "decimal_times"

-- how many arguments it takes at least, and at most
abbrev pub least_decimal_arguments : DecimalFilter → ℕ
least_decimal_arguments d.DividedBy = 2
least_decimal_arguments d.Sum = 0
least_decimal_arguments _ = 1

abbrev pub most_decimal_arguments : DecimalFilter → ℕ
most_decimal_arguments d.DividedBy = 2
most_decimal_arguments d.Format = 3
most_decimal_arguments _ = 1

abbrev pub takes_decimal_arguments : DecimalFilter → ℕ → Bool
takes_decimal_arguments f n = nat_le (least_decimal_arguments f) n &&
    nat_le n (most_decimal_arguments f)
