-- The nodes of a whole template.
use Rattle.std.proofs.Common.{◌≡◌, List, length, sym, subst}
use Rattle.liquid_syntax.specs.Flats.{IsForestAt}
use Rattle.liquid_syntax.specs.Templates.{template_nodes, forest_of}
use Rattle.liquid_syntax.specs.declared.node.Node.{Node}
use Rattle.liquid_syntax.specs.declared.template.Template.{Template}
use Rattle.liquid_syntax.proofs.Whole.{template_stands}

pub stood_in : (t : Template) (ns : List Node) → ns ≡ template_nodes t → IsForestAt ns 0 (forest_of t) (length ns)
stood_in t ns is = subst (λ l. IsForestAt l 0 (forest_of t) (length l)) (sym is) (template_stands t)
