-- The tree of a template, and the trees of partials.
--     tree_of t      the tree of a template;   partials_of p      of each partial, by name
--     slots_of p      what stands in the slots of partials, by name: a tree, or none
--     node_count_of t      how many nodes a template has, in all depths
use Rattle.std.specs.Prelude.{ℕ, List, [], ◌∷◌, max, Option, Some, None, option_map, String}
use Rattle.std.specs.Prelude.{string_bytes}
use Rattle.std.specs.declared.alloc.Global.{Global}
use Rattle.liquid_model.specs.Maps.{listed}
use Rattle.liquid_model.specs.Texts.{Text}
use Rattle.liquid_model.specs.declared.error.ErrorKind.{ErrorKind}
use Rattle.liquid_language.specs.Entries.{seen}
use Rattle.liquid_syntax.specs.Slots.{filled}
use Rattle.liquid_evaluation.specs.Counts.{count_of_nodes}
use Rattle.liquid_evaluation.specs.Tree as tree
use Rattle.liquid_syntax.specs.Forest.{Forest}
use Rattle.liquid_syntax.specs.Laid as laid
use Rattle.liquid_syntax.specs.Flats.{Maker, flats, nodes_of}
use Rattle.liquid_syntax.specs.declared.node.Node.{Node}
use Rattle.liquid_syntax.specs.declared.template.Template.{Template}
use Rattle.liquid_syntax.specs.declared.partials.Partials.{Partials}
use Rattle.liquid_syntax.specs.declared.positions.Position.{Position}

abbrev pub template_nodes : Template → List Node
template_nodes t = t.nodes.items

-- where each of them begins in the source, which nothing else depends on
abbrev pub positions_of : Template → List Position
positions_of t = t.positions.items

-- the source, where the template keeps it, which nothing else depends on either
abbrev pub kept_source : Template → Option Text
kept_source t = option_map string_bytes t.source

abbrev pub forest_of : Template → Forest Maker
forest_of t = laid.tree_of (flats t.nodes.items)

unfoldable pub tree_of : Template → tree.Nodes
tree_of t = nodes_of (forest_of t)

abbrev pub node_count_of : Template → ℕ
node_count_of t = count_of_nodes (tree_of t)

-- ---- partials

abbrev pub slots_of : Partials → List (Text × Option tree.Nodes)
slots_of p = seen (option_map tree_of) p.templates.entries

-- the kind of the fault that is kept of a name, if one is: nothing else depends on it
abbrev pub refused_kind : Partials → Text → Option ErrorKind
refused_kind p name = listed (seen (λ e. e.kind) p.refused.entries) name

abbrev pub partials_of : Partials → List (Text × tree.Nodes)
partials_of p = filled (slots_of p)

abbrev pub nodes_held : Option Template → ℕ
nodes_held None = 0
nodes_held (Some t) = node_count_of t

-- the greatest number of nodes of a partial
abbrev pub most_nodes : List (String Global × Option Template) → ℕ
most_nodes [] = 0
most_nodes (p ∷ ps) = max (nodes_held p.1) (most_nodes ps)

abbrev pub most_of : Partials → ℕ
most_of p = most_nodes p.templates.entries
