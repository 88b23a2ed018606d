use Rattle.liquid_evaluation.proofs.Telling.{item_ended, item_visited, all_visited}
use Rattle.liquid_evaluation.proofs.NameParts.{each_filter}
use Rattle.liquid_evaluation.proofs.visit.visit_filters.Goals as goal

pub returns-then-visit_expressions : goal.returns-then-visit_expressions
returns-then-visit_expressions g c =
    let visits = rw c.deref.ensures.value at c.visit_expressions.ensures in
    item_ended g.met.V.NameVisitor.laws each_filter _ _ _ _ _ _ _ c.loop-filter.invariant visits c.if-visit_expressions.true c.filter-item.is c.loop-filter-test.true

pub loop-filter-preserved : goal.loop-filter-preserved
loop-filter-preserved g c =
    let visits = rw c.deref.ensures.value at c.visit_expressions.ensures in
    item_visited g.met.V.NameVisitor.laws each_filter _ _ _ _ _ _ _ c.loop-filter.invariant visits c.if-visit_expressions.false c.filter-item.is c.loop-filter-test.true

pub returns : goal.returns
returns g c = all_visited g.met.V.NameVisitor.laws each_filter _ _ _ _ c.loop-filter.invariant c.loop-filter-test.false
