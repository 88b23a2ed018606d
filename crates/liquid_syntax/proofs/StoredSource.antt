-- Templates of the same list have the same tree.
use Rattle.std.proofs.Common.{◌≡◌, ap}
use Rattle.liquid_syntax.specs.Flats.{flats, nodes_of}
use Rattle.liquid_syntax.specs.Laid as laid
use Rattle.liquid_syntax.specs.Templates.{template_nodes, tree_of}
use Rattle.liquid_syntax.specs.declared.template.Template.{Template}

pub same_tree : (t u : Template) → template_nodes t ≡ template_nodes u → tree_of t ≡ tree_of u
unfolding tree_of
same_tree t u same = ap (λ nodes. nodes_of (laid.tree_of (flats nodes))) same
