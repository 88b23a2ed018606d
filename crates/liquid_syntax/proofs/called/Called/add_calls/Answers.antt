use Rattle.liquid_syntax.proofs.Calling.{first_all, first_next, first_none}
use Rattle.liquid_syntax.proofs.called.Called.add_calls.Goals as goal

pub loop-node-init : goal.loop-node-init
loop-node-init c = first_none c.args.self.now c.nodes-nodes.result.now

pub loop-node-preserved : goal.loop-node-preserved
loop-node-preserved c = first_next c.args.self.now c.loop-node.self c.add_node.new.self c.nodes-nodes.result.now c.loop-node.node-index c.node-item.result c.loop-node.invariant c.in_ok-add_node.ensures c.node-item.is c.loop-node-test.true

pub returns : goal.returns
returns c = first_all c.args.self.now c.loop-node.self c.args.template.now c.nodes-nodes.result.now c.loop-node.node-index c.nodes-nodes.ensures c.loop-node.invariant c.loop-node-test.false
