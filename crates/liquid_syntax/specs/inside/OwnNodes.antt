-- The nodes of a list, each as a node of the tree with nothing in its bodies: what a definition
-- over trees says of one is what it says of the node itself.
--     own_node n      of a node;   own_nodes ns      of the nodes of a list
--     own_whens vss      the `when` parts of a `case` with these values
use Rattle.std.specs.Prelude.{List, [], ◌∷◌, map}
use Rattle.liquid_core.specs.Expression.{Expression}
use Rattle.liquid_evaluation.specs.Tree as tree
use Rattle.liquid_syntax.specs.Flats.{flat_of}
use Rattle.liquid_syntax.specs.declared.node.Node.{Node}

abbrev pub own_node : Node → tree.Node
own_node n = (flat_of n).head (map (λ end. tree.no_nodes) (flat_of n).ends)

unfoldable pub own_nodes : List Node → tree.Nodes
own_nodes [] = tree.no_nodes
own_nodes (n ∷ ns) = tree.node (own_node n) (own_nodes ns)

unfoldable pub own_whens : List (List Expression) → tree.Whens
own_whens [] = tree.no_whens
own_whens (values ∷ arms) = tree.when values tree.no_nodes (own_whens arms)
