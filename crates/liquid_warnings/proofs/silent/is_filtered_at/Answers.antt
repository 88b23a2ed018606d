use Rattle.std.proofs.Common.{◌≡◌, ◌∙◌, sym}
use Rattle.liquid_warnings.proofs.SilentNodes.{found, passed, no_nodes_left, no_positions_left}
use Rattle.liquid_warnings.proofs.silent.is_filtered_at.Goals as goal

pub returns-then-stands_at : goal.returns-then-stands_at
returns-then-stands_at c =
    c.is_filtered_node.ensures ∙ sym (c.loop-place.invariant ∙ found c.args.remark.now.line c.args.remark.now.column c.loop-place.place c.args.nodes.now c.args.positions.now _ c.in-Some.position.now
    c.loop-place-test.true c.in-Some.ensures.lookup.3.0 c.index-nodes-place.is c.in-Some.ensures.lookup.1 (sym c.stands_at.ensures ∙ c.if-stands_at.true))

pub returns-in_default : goal.returns-in_default
returns-in_default c = sym (c.loop-place.invariant ∙ no_positions_left c.args.remark.now.line c.args.remark.now.column c.loop-place.place c.args.nodes.now c.args.positions.now c.in_default.ensures.lookup.3)

pub loop-place-preserved : goal.loop-place-preserved
loop-place-preserved c =
    c.loop-place.invariant ∙ passed c.args.remark.now.line c.args.remark.now.column c.loop-place.place c.args.nodes.now c.args.positions.now _ c.in-Some.position.now
    c.loop-place-test.true c.in-Some.ensures.lookup.3.0 c.index-nodes-place.is c.in-Some.ensures.lookup.1 (sym c.stands_at.ensures ∙ c.if-stands_at.false)

pub returns : goal.returns
returns c = sym (c.loop-place.invariant ∙ no_nodes_left c.args.remark.now.line c.args.remark.now.column c.loop-place.place c.args.nodes.now c.args.positions.now c.loop-place-test.false)
