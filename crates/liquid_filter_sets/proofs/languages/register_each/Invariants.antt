use Rattle.std.proofs.Common.{◌≡◌, drop}
use Rattle.liquid_model.specs.Maps.{listed}
use Rattle.liquid_language.specs.Registered.{registered_in}
use Rattle.liquid_filter_sets.specs.Languages.{with_each_decimal}
use Rattle.liquid_filter_sets.proofs.languages.register_each.Given as goal

-- what is left makes the whole
abbrev pub invariant-loop-filter : goal.invariant-loop-filter
invariant-loop-filter l = with_each_decimal (listed (registered_in l.filters)) (drop l.filter-index l.decimals) ≡ with_each_decimal (listed (registered_in l.initial.filters)) l.decimals
