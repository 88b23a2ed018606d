use Rattle.liquid_evaluation.proofs.Telling.{item_ended, item_visited, all_visited}
use Rattle.liquid_syntax.proofs.NodeNames.{each_value}
use Rattle.liquid_syntax.proofs.visit_nodes.visit_values.Goals as goal

pub returns-then-visit_expression : goal.returns-then-visit_expression
returns-then-visit_expression g c =
    item_ended g.met.V.NameVisitor.laws each_value _ _ _ _ _ _ _ c.loop-pair.invariant c.visit_expression.ensures c.if-visit_expression.true c.pair-item.is c.loop-pair-test.true

pub loop-pair-preserved : goal.loop-pair-preserved
loop-pair-preserved g c =
    item_visited g.met.V.NameVisitor.laws each_value _ _ _ _ _ _ _ c.loop-pair.invariant c.visit_expression.ensures c.if-visit_expression.false c.pair-item.is c.loop-pair-test.true

pub returns : goal.returns
returns g c = all_visited g.met.V.NameVisitor.laws each_value _ _ _ _ c.loop-pair.invariant c.loop-pair-test.false
