use Rattle.liquid_evaluation.proofs.Telling.{item_ended, item_visited, all_visited}
use Rattle.liquid_syntax.proofs.NodeNames.{each_arm}
use Rattle.liquid_syntax.proofs.visit_nodes.visit_arms.Goals as goal

pub returns-then-visit_expressions : goal.returns-then-visit_expressions
returns-then-visit_expressions g c =
    let visits = rw c.deref.ensures.value at c.visit_expressions.ensures in
    item_ended g.met.V.NameVisitor.laws each_arm _ _ _ _ _ _ _ c.loop-arm.invariant visits c.if-visit_expressions.true c.arm-item.is c.loop-arm-test.true

pub loop-arm-preserved : goal.loop-arm-preserved
loop-arm-preserved g c =
    let visits = rw c.deref.ensures.value at c.visit_expressions.ensures in
    item_visited g.met.V.NameVisitor.laws each_arm _ _ _ _ _ _ _ c.loop-arm.invariant visits c.if-visit_expressions.false c.arm-item.is c.loop-arm-test.true

pub returns : goal.returns
returns g c = all_visited g.met.V.NameVisitor.laws each_arm _ _ _ _ c.loop-arm.invariant c.loop-arm-test.false
