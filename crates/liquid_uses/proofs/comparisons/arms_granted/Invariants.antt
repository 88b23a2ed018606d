use Rattle.std.proofs.Common.{◌≡◌, true, drop}
use Rattle.liquid_core.specs.ExpressionView.{expression_view}
use Rattle.liquid_syntax.specs.Flats.{arm_values}
use Rattle.liquid_model.specs.UseViews.{uses_view}
use Rattle.liquid_uses.specs.inside.OwnGrants.{arms_granted}
use Rattle.liquid_uses.proofs.comparisons.arms_granted.Given as goal

-- where those that are left pass, all do
abbrev pub invariant-loop-arm : goal.invariant-loop-arm
invariant-loop-arm l =
    arms_granted (uses_view l.uses) (expression_view l.target) (arm_values (drop l.arm-index l.arms)) ≡ true
    → arms_granted (uses_view l.uses) (expression_view l.target) (arm_values l.arms) ≡ true
