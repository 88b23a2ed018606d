use Rattle.std.proofs.Common.{◌≡◌, true, rules}
use Rattle.liquid_core.specs.ExpressionView.{expression_view}
use Rattle.liquid_model.specs.UseViews.{uses_view}
use Rattle.liquid_uses.proofs.EachGrants.{item_passed, all_passed, each_arm}
use Rattle.liquid_uses.proofs.comparisons.arms_granted.Goals as goal

pub loop-arm-preserved : goal.loop-arm-preserved
loop-arm-preserved c =
    let passed : c.values_granted.result ≡ true = search rules in
    let passes = rw c.deref.ensures.value at (c.values_granted.ensures c.reached-place.ensures) in
    item_passed (each_arm (uses_view c.args.uses.now) (expression_view c.args.target.now)) _ _ _ c.loop-arm.invariant (passes passed) c.arm-item.is c.loop-arm-test.true

pub returns : goal.returns
returns c = λ holds. all_passed (each_arm (uses_view c.args.uses.now) (expression_view c.args.target.now)) _ _ c.loop-arm.invariant c.loop-arm-test.false
