use Rattle.liquid_syntax.specs.inside.Mentions.{partials_list_names}
use Rattle.liquid_syntax.proofs.partials.Partials.visit_names.Given as goal

-- what telling the rest does is what telling all of them does
abbrev pub invariant-loop-slot : goal.invariant-loop-slot
invariant-loop-slot g l = (r : _) (w : _) → g.V.NameVisitor.tells l.visitor (partials_list_names l.slot-iterator) r w → g.V.NameVisitor.tells l.initial.visitor (partials_list_names l.initial.slot-iterator) r w
