use Rattle.std.proofs.Common.{◌≡◌, true, rules}
use Rattle.liquid_core.specs.ExpressionView.{expression_view}
use Rattle.liquid_model.specs.UseViews.{uses_view}
use Rattle.liquid_uses.proofs.EachGrants.{item_passed, all_passed, each_value}
use Rattle.liquid_uses.proofs.comparisons.values_granted.Goals as goal

pub loop-value-preserved : goal.loop-value-preserved
loop-value-preserved c = λ reached.
    let passed : c.value_granted.result ≡ true = search rules in
    item_passed (each_value (uses_view c.args.uses.now) (expression_view c.args.target.now)) _ _ _ (c.loop-value.invariant reached) (c.value_granted.ensures reached passed) c.value-item.is c.loop-value-test.true

pub returns : goal.returns
returns c = λ reached holds. all_passed (each_value (uses_view c.args.uses.now) (expression_view c.args.target.now)) _ _ (c.loop-value.invariant reached) c.loop-value-test.false
