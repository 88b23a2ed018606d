use Rattle.std.proofs.Common.{◌≡◌, drop, map}
use Rattle.std.specs.List.{list_any}
use Rattle.liquid_model.specs.View.{view}
use Rattle.liquid_warnings.specs.DataDifferences.{shows_order}
use Rattle.liquid_warnings.proofs.difference.any_shows_order.Given as goal

-- the values that are left decide as all of them do
abbrev pub invariant-loop-value : goal.invariant-loop-value
invariant-loop-value l =
    list_any shows_order (map (λ r. view r.now) l.values)
    ≡ list_any shows_order (map (λ r. view r.now) (drop l.value-index l.values))
