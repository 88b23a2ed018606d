use Rattle.liquid_syntax.proofs.Wanting.{next_settled, template_settled, widens_on}
use Rattle.liquid_syntax.proofs.wanted.Wanted.add_calls.Goals as goal

pub loop-node-preserved : goal.loop-node-preserved
loop-node-preserved c = (
  widens_on _ _ _ c.loop-node.invariant.0 c.add_node.ensures.widens,
  next_settled _ _ _ _ _ c.add_node.ensures.widens c.loop-node.invariant.1 c.in_ok-add_node.ensures.settled c.node-item.is c.loop-node-test.true,
)

pub returns-clause-settled : goal.returns-clause-settled
returns-clause-settled c = template_settled c.loop-node.self c.args.template.now _ _ c.nodes-nodes.ensures c.loop-node.invariant.1 c.loop-node-test.false
