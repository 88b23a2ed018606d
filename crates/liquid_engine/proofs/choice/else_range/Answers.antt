use Rattle.std.proofs.Common.{rules, arith, ◌-◌, ◌<◌, length}
use Rattle.std.proofs.lemmas.Result.{err_from_is_err_and}
use Rattle.liquid_core.specs.States.{environment_of}
use Rattle.liquid_syntax.specs.Flats.{nodes_of}
use Rattle.liquid_engine.proofs.Choices.{range_within, comes_body, comes_else, comes_fault, in_order}
use Rattle.liquid_engine.proofs.choice.else_range.Goals as goal

pub bounds-nodes-at : goal.bounds-nodes-at
bounds-nodes-at c =
    let (f, stands) = c.requires in
    let x = c.loop-at.invariant.comes f stands in
    range_within c.args.nodes.now c.loop-at.at c.args.to x.nodes x.stands c.loop-at-test.true

pub offset_bounds-nodes-at : goal.offset_bounds-nodes-at
offset_bounds-nodes-at c =
    let (f, stands) = c.requires in
    let x = c.loop-at.invariant.comes f stands in
    let lt : c.loop-at.at < length c.args.nodes.now = range_within c.args.nodes.now c.loop-at.at c.args.to x.nodes x.stands c.loop-at-test.true in
    search rules

pub returns-in_err-elsif_holds-in-If-clause-chosen : goal.returns-in_err-elsif_holds-in-If-clause-chosen
returns-in_err-elsif_holds-in-If-clause-chosen c f stands =
    let p = err_from_is_err_and c.from_residual.result c.from_residual.ensures.1 in
    rw (p.1, p.2) (comes_fault c.args.nodes.now (environment_of c.args.state.now) (nodes_of f) c.loop-at.at c.args.to c.in-If.condition c.in-If.bodies c.index-nodes-at.result (c.loop-at.invariant.comes f stands) c.loop-at-test.true c.index-nodes-at.is c.in-If.is c.if-bodies-to.true c.in_err-elsif_holds-in-If.field-0.0 c.in_err-elsif_holds-in-If.ensures)

pub returns-then-branch-clause-inside : goal.returns-then-branch-clause-inside
returns-then-branch-clause-inside c =
    let (f, stands) = c.requires in
    let order = in_order c.args.nodes.now (environment_of c.args.state.now) (nodes_of f) c.loop-at.at c.args.to c.in-If.condition c.in-If.bodies c.index-nodes-at.result (c.loop-at.invariant.comes f stands) c.loop-at-test.true c.index-nodes-at.is c.in-If.is c.if-bodies-to.true in
    (omega (arith, c.loop-at.invariant.ordered), order.1)

pub returns-then-branch-clause-chosen : goal.returns-then-branch-clause-chosen
returns-then-branch-clause-chosen c f stands = comes_body c.args.nodes.now (environment_of c.args.state.now) (nodes_of f) c.loop-at.at c.args.to c.in-If.condition c.in-If.bodies c.index-nodes-at.result (c.loop-at.invariant.comes f stands) c.loop-at-test.true c.index-nodes-at.is c.in-If.is c.if-bodies-to.true (search rules)

pub loop-at-smaller : goal.loop-at-smaller
loop-at-smaller c =
    let (f, stands) = c.requires in
    let order = in_order c.args.nodes.now (environment_of c.args.state.now) (nodes_of f) c.loop-at.at c.args.to c.in-If.condition c.in-If.bodies c.index-nodes-at.result (c.loop-at.invariant.comes f stands) c.loop-at-test.true c.index-nodes-at.is c.in-If.is c.if-bodies-to.true in
    let lt : c.args.to - c.in-If.bodies.first_end < c.args.to - c.loop-at.at = omega (arith, order.0, order.1) in
    lt

pub loop-at-preserved : goal.loop-at-preserved
loop-at-preserved c =
    let (f, stands) = c.requires in
    let order = in_order c.args.nodes.now (environment_of c.args.state.now) (nodes_of f) c.loop-at.at c.args.to c.in-If.condition c.in-If.bodies c.index-nodes-at.result (c.loop-at.invariant.comes f stands) c.loop-at-test.true c.index-nodes-at.is c.in-If.is c.if-bodies-to.true in
    record {
      ordered = omega (arith, order.0, c.loop-at.invariant.ordered);
      comes = λ f stands. comes_else c.args.nodes.now (environment_of c.args.state.now) (nodes_of f) c.loop-at.at c.args.to c.in-If.condition c.in-If.bodies c.index-nodes-at.result (c.loop-at.invariant.comes f stands) c.loop-at-test.true c.index-nodes-at.is c.in-If.is c.if-bodies-to.true (search rules);
    }
