use Rattle.std.proofs.Common.{◌≡◌, true, drop, map}
use Rattle.liquid_core.specs.ExpressionView.{expression_view}
use Rattle.liquid_model.specs.UseViews.{uses_view}
use Rattle.liquid_meaning.specs.Reading.{grants_values}
use Rattle.liquid_uses.specs.inside.Placing.{IsReached}
use Rattle.liquid_uses.proofs.comparisons.values_granted.Given as goal

-- where the target is at the place and the values that are left pass, all do
abbrev pub invariant-loop-value : goal.invariant-loop-value
invariant-loop-value l =
    IsReached l.place (uses_view l.uses) (expression_view l.target)
    → grants_values (uses_view l.uses) (expression_view l.target) (map expression_view (drop l.value-index l.values)) ≡ true
    → grants_values (uses_view l.uses) (expression_view l.target) (map expression_view l.values) ≡ true
