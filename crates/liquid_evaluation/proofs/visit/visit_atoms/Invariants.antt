use Rattle.std.proofs.Common.{drop, map}
use Rattle.liquid_evaluation.specs.ConditionView.{atom_view}
use Rattle.liquid_evaluation.specs.Names.{atoms_names}
use Rattle.liquid_evaluation.proofs.visit.visit_atoms.Given as goal

-- what telling the rest does is what telling all of them does
abbrev pub invariant-loop-atom : goal.invariant-loop-atom
invariant-loop-atom g l = (r : _) (w : _) → g.V.NameVisitor.tells l.visitor (atoms_names (map atom_view (drop l.atom-index l.atom-items))) r w → g.V.NameVisitor.tells l.fn.visitor (atoms_names (map atom_view l.atom-items)) r w
