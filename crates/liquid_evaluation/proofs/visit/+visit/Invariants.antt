use Rattle.std.proofs.Common.{drop}
use Rattle.liquid_core.specs.ExpressionView.{steps_view}
use Rattle.liquid_evaluation.specs.Names.{steps_names}
use Rattle.liquid_evaluation.proofs.visit.+visit.Given as goal

-- what telling the rest does is what telling all of them does
abbrev pub invariant-visit_steps-loop-step : goal.invariant-visit_steps-loop-step
invariant-visit_steps-loop-step g l = (r : _) (w : _) → g.V.NameVisitor.tells l.visitor (steps_names (steps_view (drop l.step-index l.step-items))) r w → g.V.NameVisitor.tells l.fn.visitor (steps_names (steps_view l.step-items)) r w
