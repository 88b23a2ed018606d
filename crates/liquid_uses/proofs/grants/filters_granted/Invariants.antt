use Rattle.std.proofs.Common.{◌≡◌, true, drop, map}
use Rattle.liquid_evaluation.specs.ChainView.{chain_filter_view}
use Rattle.liquid_model.specs.UseViews.{uses_view}
use Rattle.liquid_meaning.specs.Reading.{grants_filters}
use Rattle.liquid_uses.proofs.grants.filters_granted.Given as goal

-- where those that are left pass, all do
abbrev pub invariant-loop-filter : goal.invariant-loop-filter
invariant-loop-filter l = grants_filters (uses_view l.uses) (map chain_filter_view (drop l.filter-index l.filters)) ≡ true → grants_filters (uses_view l.uses) (map chain_filter_view l.filters) ≡ true
