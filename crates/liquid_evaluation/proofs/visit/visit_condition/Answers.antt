use Rattle.liquid_evaluation.proofs.Telling.{item_ended, item_visited, all_visited}
use Rattle.liquid_evaluation.proofs.NameParts.{each_conjunction}
use Rattle.liquid_evaluation.proofs.visit.visit_condition.Goals as goal

pub returns-then-visit_atoms : goal.returns-then-visit_atoms
returns-then-visit_atoms g c =
    rw (← c.deref-conjunction-items.ensures.value)
    (item_ended g.met.V.NameVisitor.laws each_conjunction _ _ _ _ _ _ _ c.loop-conjunction.invariant c.visit_atoms.ensures c.if-visit_atoms.true c.conjunction-item.is c.loop-conjunction-test.true)

pub loop-conjunction-preserved : goal.loop-conjunction-preserved
loop-conjunction-preserved g c = item_visited g.met.V.NameVisitor.laws each_conjunction _ _ _ _ _ _ _ c.loop-conjunction.invariant c.visit_atoms.ensures c.if-visit_atoms.false c.conjunction-item.is c.loop-conjunction-test.true

pub returns : goal.returns
returns g c =
    rw (← c.deref-conjunction-items.ensures.value)
    (all_visited g.met.V.NameVisitor.laws each_conjunction _ _ _ _ c.loop-conjunction.invariant c.loop-conjunction-test.false)
