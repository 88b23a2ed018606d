use Rattle.std.proofs.Common.{arith, ◌+◌, ◌≤◌, ◌∙◌, sym, ap, length, map}
use Rattle.std.proofs.lemmas.List.{drop_all}
use Rattle.liquid_evaluation.specs.ConditionView.{atoms_view}
use Rattle.liquid_engine.specs.inside.NodeTurns.{comparisons, counted_turns}
use Rattle.liquid_engine.proofs.NodeTurns.{counted_whole}
use Rattle.liquid_engine.proofs.node_turns.comparisons_of.Goals as goal

pub returns : goal.returns
returns c =
    let items = c.args.condition.now.conjunctions.items in
    let over : length items ≤ c.loop-conjunction.conjunction-index = omega (arith, c.loop-conjunction-test.false, c.deref-conjunction-items.ensures.len, ap length c.deref-conjunction-items.ensures.value) in
    sym (c.loop-conjunction.invariant.sums ∙ ap (λ l. counted_turns (c.loop-conjunction.count + comparisons (map atoms_view l))) (drop_all c.loop-conjunction.conjunction-index items over)
    ∙ counted_whole c.loop-conjunction.count c.loop-conjunction.invariant.fits)
