-- The filters over decimals by their names.
use Rattle.std.specs.Prelude.{List, [], ◌∷◌, Option, Some, None, cond}
use Rattle.liquid_model.specs.Texts.{Text, same_text}
use Rattle.liquid_decimals.specs.Kinds.{decimal_filter_name}
use Rattle.liquid_decimals.specs.declared.filter.DecimalFilter.{DecimalFilter}
use Rattle.liquid_decimals.specs.declared.filter.DecimalFilter.TheVariants as each

abbrev pub decimal_filter_among : Text → List DecimalFilter → Option DecimalFilter
decimal_filter_among name [] = None
decimal_filter_among name (f ∷ fs) =
    cond (same_text (decimal_filter_name f) name) (Some f) (decimal_filter_among name fs)

-- each of them
abbrev pub each_decimal_filter : List DecimalFilter
each_decimal_filter = each.AtLeast ∷ each.AtMost ∷ each.Compare ∷ each.DividedBy ∷ each.Format ∷
    each.Minus ∷ each.Plus ∷ each.Round ∷ each.Sum ∷ each.Times ∷ []

-- the filter of a name, where there is one
abbrev pub decimal_filter_named : Text → Option DecimalFilter
decimal_filter_named name = decimal_filter_among name each_decimal_filter
