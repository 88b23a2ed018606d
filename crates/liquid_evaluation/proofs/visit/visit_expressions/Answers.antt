use Rattle.liquid_evaluation.proofs.Telling.{item_ended, item_visited, all_visited}
use Rattle.liquid_evaluation.proofs.NameParts.{each_expression}
use Rattle.liquid_evaluation.proofs.visit.visit_expressions.Goals as goal

pub returns-then-visit_expression : goal.returns-then-visit_expression
returns-then-visit_expression g c = item_ended g.met.V.NameVisitor.laws each_expression _ _ _ _ _ _ _ c.loop-expression.invariant c.visit_expression.ensures c.if-visit_expression.true c.expression-item.is c.loop-expression-test.true

pub loop-expression-preserved : goal.loop-expression-preserved
loop-expression-preserved g c = item_visited g.met.V.NameVisitor.laws each_expression _ _ _ _ _ _ _ c.loop-expression.invariant c.visit_expression.ensures c.if-visit_expression.false c.expression-item.is c.loop-expression-test.true

pub returns : goal.returns
returns g c = all_visited g.met.V.NameVisitor.laws each_expression _ _ _ _ c.loop-expression.invariant c.loop-expression-test.false
