use Rattle.std.proofs.Common.{◌≡◌, true, rules}
use Rattle.liquid_model.specs.UseViews.{uses_view}
use Rattle.liquid_uses.proofs.EachGrants.{item_passed, all_passed, each_node}
use Rattle.liquid_uses.proofs.node_grants.nodes_granted.Goals as goal

pub loop-node-preserved : goal.loop-node-preserved
loop-node-preserved c =
    let passed : c.node_granted.result ≡ true = search rules in
    item_passed (each_node (uses_view c.args.uses.now)) _ _ _ c.loop-node.invariant (c.node_granted.ensures passed) c.node-item.is c.loop-node-test.true

pub returns : goal.returns
returns c = λ holds. all_passed (each_node (uses_view c.args.uses.now)) _ _ c.loop-node.invariant c.loop-node-test.false
