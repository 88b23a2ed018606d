-- What the nodes of a list look up among partials.
--     own_calls      of a node itself, and not of its bodies;   list_calls      of the nodes of a
--                    list
use Rattle.std.specs.Prelude.{List}
use Rattle.liquid_evaluation.specs.PartialCalls.{PartialCall, node_calls, nodes_calls}
use Rattle.liquid_syntax.specs.inside.OwnNodes.{own_node, own_nodes}
use Rattle.liquid_syntax.specs.declared.node.Node.{Node}

abbrev pub own_calls : Node → List PartialCall
own_calls n = node_calls (own_node n)

abbrev pub list_calls : List Node → List PartialCall
list_calls ns = nodes_calls (own_nodes ns)
