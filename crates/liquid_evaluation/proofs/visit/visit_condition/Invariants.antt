use Rattle.std.proofs.Common.{drop, map}
use Rattle.liquid_evaluation.specs.ConditionView.{atoms_view}
use Rattle.liquid_evaluation.specs.Names.{condition_names}
use Rattle.liquid_evaluation.proofs.visit.visit_condition.Given as goal

-- what telling the rest does is what telling all of them does
abbrev pub invariant-loop-conjunction : goal.invariant-loop-conjunction
invariant-loop-conjunction g l = (r : _) (w : _) → g.V.NameVisitor.tells l.visitor (condition_names (map atoms_view (drop l.conjunction-index l.conjunction-items))) r w → g.V.NameVisitor.tells l.fn.visitor (condition_names (map atoms_view l.conjunction-items)) r w
