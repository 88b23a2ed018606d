-- A node whose text is escaped for HTML.
use Rattle.std.specs.Prelude.{[], ◌∷◌}
use Rattle.liquid_evaluation.specs.Tree.{FilterCall, Node, existing, filtered, no_nodes, node}
use Rattle.liquid_filters.specs.declared.kind.FilterKind.TheVariants.{Escape}

-- the filter `escape`, without arguments
abbrev pub escape_call : FilterCall
escape_call = record { filter = existing Escape; arguments = []; required = 0 }

-- the node, whose text goes through `escape`
abbrev pub escaped_node : Node → Node
escaped_node n = filtered (escape_call ∷ []) (node n no_nodes)
