use Rattle.liquid_evaluation.proofs.Telling.{item_ended, item_visited, all_visited}
use Rattle.liquid_evaluation.proofs.NameParts.{each_atom}
use Rattle.liquid_evaluation.proofs.visit.visit_atoms.Goals as goal

pub returns-then-visit_atom : goal.returns-then-visit_atom
returns-then-visit_atom g c =
    rw (← c.deref-atom-items.ensures.value)
    (item_ended g.met.V.NameVisitor.laws each_atom _ _ _ _ _ _ _ c.loop-atom.invariant c.visit_atom.ensures c.if-visit_atom.true c.atom-item.is c.loop-atom-test.true)

pub loop-atom-preserved : goal.loop-atom-preserved
loop-atom-preserved g c = item_visited g.met.V.NameVisitor.laws each_atom _ _ _ _ _ _ _ c.loop-atom.invariant c.visit_atom.ensures c.if-visit_atom.false c.atom-item.is c.loop-atom-test.true

pub returns : goal.returns
returns g c =
    rw (← c.deref-atom-items.ensures.value)
    (all_visited g.met.V.NameVisitor.laws each_atom _ _ _ _ c.loop-atom.invariant c.loop-atom-test.false)
