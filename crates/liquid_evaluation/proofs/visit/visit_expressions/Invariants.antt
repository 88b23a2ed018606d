use Rattle.std.proofs.Common.{drop, map}
use Rattle.liquid_core.specs.ExpressionView.{expression_view}
use Rattle.liquid_evaluation.specs.Names.{all_names}
use Rattle.liquid_evaluation.proofs.visit.visit_expressions.Given as goal

-- what telling the rest does is what telling all of them does
abbrev pub invariant-loop-expression : goal.invariant-loop-expression
invariant-loop-expression g l = (r : _) (w : _) → g.V.NameVisitor.tells l.visitor (all_names (map expression_view (drop l.expression-index l.expressions))) r w → g.V.NameVisitor.tells l.fn.visitor (all_names (map expression_view l.expressions)) r w
