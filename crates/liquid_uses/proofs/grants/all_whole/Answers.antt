use Rattle.std.proofs.Common.{◌≡◌, true, rules}
use Rattle.liquid_model.specs.UseViews.{uses_view}
use Rattle.liquid_uses.proofs.EachGrants.{item_passed, all_passed, each_expression}
use Rattle.liquid_uses.proofs.grants.all_whole.Goals as goal

pub loop-expression-preserved : goal.loop-expression-preserved
loop-expression-preserved c =
    let passed : c.grants_whole_value.result ≡ true = search rules in
    item_passed (each_expression (uses_view c.args.uses.now)) _ _ _ c.loop-expression.invariant (c.grants_whole_value.ensures passed) c.expression-item.is c.loop-expression-test.true

pub returns : goal.returns
returns c = λ holds. all_passed (each_expression (uses_view c.args.uses.now)) _ _ c.loop-expression.invariant c.loop-expression-test.false
