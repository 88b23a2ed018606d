use Rattle.std.proofs.Common.{rules, arith, ◌≡◌, ◌+◌, ◌-◌, ◌<◌, ◌∙◌, length, refl, sym, subst}
use Rattle.liquid_evaluation.specs.ConditionView.{condition_view}
use Rattle.liquid_syntax.specs.Flats.{nodes_of}
use Rattle.liquid_engine.specs.inside.NodeTurns.{comparisons}
use Rattle.liquid_engine.proofs.Choices.{range_within}
use Rattle.liquid_engine.proofs.NodeTurns.{counted_fits, counted_small, elsifs_followed, elsifs_next, elsifs_order, elsifs_other, elsifs_over}
use Rattle.liquid_engine.proofs.node_turns.comparisons_of_elsifs.Goals as goal

pub bounds-nodes-at : goal.bounds-nodes-at
bounds-nodes-at c =
    let (f, stands) = c.requires in
    let (rest, here, is) = c.loop-at.invariant.left f stands in
    range_within c.args.nodes.now c.loop-at.at c.args.to rest here c.loop-at-test.true

pub offset_bounds-nodes-at : goal.offset_bounds-nodes-at
offset_bounds-nodes-at c =
    let (f, stands) = c.requires in
    let (rest, here, is) = c.loop-at.invariant.left f stands in
    let lt : c.loop-at.at < length c.args.nodes.now = range_within c.args.nodes.now c.loop-at.at c.args.to rest here c.loop-at-test.true in
    search rules

pub returns-in_default : goal.returns-in_default
returns-in_default c f stands =
    elsifs_other c.args.nodes.now c.loop-at.at c.args.to c.loop-at.count (nodes_of f) c.index-nodes-at.result (c.loop-at.invariant.left f stands) c.index-nodes-at.is c.loop-at.invariant.fits c.loop-at-test.true c.in_default.not-If

pub returns-then-bodies-to : goal.returns-then-bodies-to
returns-then-bodies-to c f stands =
    elsifs_followed c.args.nodes.now c.loop-at.at c.args.to c.loop-at.count (nodes_of f) c.in-If.condition c.in-If.bodies c.index-nodes-at.result (c.loop-at.invariant.left f stands) c.index-nodes-at.is c.in-If.is c.loop-at-test.true c.loop-at.invariant.fits (search rules)

pub loop-at-smaller : goal.loop-at-smaller
loop-at-smaller c =
    let (f, stands) = c.requires in
    let ends : c.in-If.bodies.last_end ≡ c.args.to = search rules in
    let order = elsifs_order c.args.nodes.now c.loop-at.at c.args.to c.loop-at.count (nodes_of f) c.in-If.condition c.in-If.bodies c.index-nodes-at.result (c.loop-at.invariant.left f stands) c.index-nodes-at.is c.in-If.is c.loop-at-test.true ends in
    let lt : c.args.to - c.in-If.bodies.first_end < c.args.to - c.loop-at.at = omega (arith, order.0, order.1) in
    lt

pub loop-at-preserved : goal.loop-at-preserved
loop-at-preserved c =
    let sum = c.added-count.ensures c.loop-at.count (comparisons (condition_view c.in-If.condition)) (counted_small c.loop-at.count c.loop-at.invariant.fits) c.comparisons_of.ensures in
    record {
      left = λ f stands. elsifs_next c.args.nodes.now c.loop-at.at c.args.to c.loop-at.count (nodes_of f) c.in-If.condition c.in-If.bodies c.index-nodes-at.result (c.loop-at.invariant.left f stands) c.index-nodes-at.is c.in-If.is c.loop-at-test.true c.added-count.result (search rules) sum;
      fits = omega (arith, sum, counted_fits (c.loop-at.count + comparisons (condition_view c.in-If.condition)));
    }

pub returns : goal.returns
returns c f stands =
    elsifs_over c.args.nodes.now c.loop-at.at c.args.to c.loop-at.count (nodes_of f) (c.loop-at.invariant.left f stands) c.loop-at.invariant.fits c.loop-at-test.false
