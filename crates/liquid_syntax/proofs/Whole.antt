-- A whole template.
use Rattle.std.proofs.Common.{◌≡◌, List, [], ◌∷◌, length, refl, ap, subst}
use Rattle.std.proofs.lemmas.List.{length-map}
use Rattle.liquid_syntax.specs.Laid.{IsLaidOut, laid}
use Rattle.liquid_syntax.specs.Nested.{AreNested, ends_in}
use Rattle.liquid_syntax.proofs.Round.{whole-stands}
use Rattle.liquid_syntax.specs.declared.node.Node.{Node}
use Rattle.liquid_syntax.specs.declared.template.Template.{Template}
use Rattle.liquid_syntax.specs.Flats.{flats, flat_of, ends_of_nodes, nodes_of, IsForestAt}
use Rattle.liquid_syntax.specs.Templates.{template_nodes, forest_of, tree_of}
use Rattle.liquid_syntax.proofs.Dressed.{nested_laid}

pub ends_seen : (ns : List Node) → ends_of_nodes ns ≡ ends_in (flats ns)
ends_seen [] = refl
ends_seen (n ∷ ns) = ap (λ l. (flat_of n).ends ∷ l) (ends_seen ns)

-- the list of a template is that of its tree
pub template_laid : (t : Template) → laid 0 (forest_of t) ≡ flats (template_nodes t)
template_laid t = nested_laid (flats t.nodes.items) (subst AreNested (ends_seen t.nodes.items) t.nested)

pub template_stands : (t : Template) → IsForestAt (template_nodes t) 0 (forest_of t) (length (template_nodes t))
template_stands t = subst (λ n. IsLaidOut (flats t.nodes.items) 0 (forest_of t) n) (length-map t.nodes.items flat_of) (whole-stands (flats t.nodes.items) (forest_of t) (template_laid t))

pub tree_is : (t : Template) → tree_of t ≡ nodes_of (forest_of t)
unfolding tree_of
tree_is t = refl
