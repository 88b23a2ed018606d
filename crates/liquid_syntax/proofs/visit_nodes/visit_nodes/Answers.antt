use Rattle.liquid_evaluation.proofs.Telling.{item_ended, item_visited, all_visited}
use Rattle.liquid_syntax.proofs.NodeNames.{each_node}
use Rattle.liquid_syntax.proofs.visit_nodes.visit_nodes.Goals as goal

pub returns-then-visit_node : goal.returns-then-visit_node
returns-then-visit_node g c =
    item_ended g.met.V.NameVisitor.laws each_node _ _ _ _ _ _ _ c.loop-node.invariant c.visit_node.ensures c.if-visit_node.true c.node-item.is c.loop-node-test.true

pub loop-node-preserved : goal.loop-node-preserved
loop-node-preserved g c =
    item_visited g.met.V.NameVisitor.laws each_node _ _ _ _ _ _ _ c.loop-node.invariant c.visit_node.ensures c.if-visit_node.false c.node-item.is c.loop-node-test.true

pub returns : goal.returns
returns g c = all_visited g.met.V.NameVisitor.laws each_node _ _ _ _ c.loop-node.invariant c.loop-node-test.false
