use Rattle.liquid_warnings.proofs.FileWarnings.{found_at, one_node}
use Rattle.liquid_warnings.proofs.warnings.node_warnings.Goals as goal

pub loop-place-preserved : goal.loop-place-preserved
loop-place-preserved c =
    one_node c.args.written_for c.args.nodes.now c.args.positions.now c.loop-place.place _ _ _ _ _ c.loop-place.invariant c.in_ok-add_of_node.ensures
    (found_at (λ p. p.now) _ c.args.positions.now c.loop-place.place c.get.result c.get.ensures.lookup.1 c.get.ensures.lookup.3) c.index-nodes-place.is c.loop-place-test.true
