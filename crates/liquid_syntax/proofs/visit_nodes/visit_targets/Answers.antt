use Rattle.liquid_evaluation.proofs.Telling.{item_ended, item_visited, all_visited}
use Rattle.liquid_syntax.proofs.NodeNames.{each_target}
use Rattle.liquid_syntax.proofs.visit_nodes.visit_targets.Goals as goal

pub returns-then-visit : goal.returns-then-visit
returns-then-visit g c =
    let visits = rw c.as_str.ensures.value at c.visit.ensures in
    item_ended g.met.V.NameVisitor.laws each_target _ _ _ _ _ _ _ c.loop-pair.invariant visits c.if-visit.true c.pair-item.is c.loop-pair-test.true

pub loop-pair-preserved : goal.loop-pair-preserved
loop-pair-preserved g c =
    let visits = rw c.as_str.ensures.value at c.visit.ensures in
    item_visited g.met.V.NameVisitor.laws each_target _ _ _ _ _ _ _ c.loop-pair.invariant visits c.if-visit.false c.pair-item.is c.loop-pair-test.true

pub returns : goal.returns
returns g c = all_visited g.met.V.NameVisitor.laws each_target _ _ _ _ c.loop-pair.invariant c.loop-pair-test.false
