use Rattle.std.proofs.Common.{◌≡◌, drop, map}
use Rattle.std.specs.List.{list_any}
use Rattle.liquid_model.specs.View.{view}
use Rattle.liquid_filters.specs.Keeping.{is_nil}
use Rattle.liquid_warnings.proofs.difference.any_is_nil.Given as goal

-- the values that are left decide as all of them do
abbrev pub invariant-loop-value : goal.invariant-loop-value
invariant-loop-value l =
    list_any is_nil (map (λ r. view r.now) l.values)
    ≡ list_any is_nil (map (λ r. view r.now) (drop l.value-index l.values))
