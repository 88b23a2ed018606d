-- A template, where no block is open any more.
use Rattle.std.proofs.Common.{◌≡◌, ◌-◌, ◌<◌, List, [], ◌∷◌, length, reverse, get_or, Some, None, refl, sym, ap, ◌∙◌, subst, arith}
use Rattle.std.specs.Prelude.{slice_get}
use Rattle.std.proofs.lemmas.Option.{slice_get-get_or}
use Rattle.liquid_syntax.specs.Flats.{Maker, flats, ends_of_nodes, nodes_of}
use Rattle.liquid_syntax.specs.Forest.{Forest}
use Rattle.liquid_syntax.specs.Laid as laid
use Rattle.liquid_syntax.specs.Laid.{laid}
use Rattle.liquid_syntax.specs.Nested.{AreNested, ends_in}
use Rattle.liquid_syntax.proofs.Round.{tree_of-laid}
use Rattle.liquid_parser.specs.OpenBlocks.{Level, at_end}
use Rattle.liquid_syntax.specs.Templates.{template_nodes, tree_of}
use Rattle.liquid_evaluation.specs.Tree.{Nodes}
use Rattle.liquid_parser.specs.inside.Building.{Builds}
use Rattle.liquid_parser.specs.declared.build.Open.{Open}
use Rattle.liquid_syntax.specs.declared.node.Node as code
use Rattle.liquid_syntax.specs.declared.template.Template.{Template}
use Rattle.liquid_syntax.proofs.Dressed.{laid_nested}
use Rattle.liquid_syntax.proofs.Whole.{ends_seen, tree_is}

pub none_last : (os : List Open) → slice_get os (length os - 1) ≡ None → os ≡ []
none_last [] e = refl
none_last (o ∷ os) e =
    let w : length (o ∷ os) - 1 < length (o ∷ os) = omega arith in
    let is : slice_get (o ∷ os) (length (o ∷ os) - 1) ≡ Some (get_or (o ∷ os) (length (o ∷ os) - 1) o) = slice_get-get_or (o ∷ os) (length (o ∷ os) - 1) o w in
    absurd cc

-- the list is that of one forest, of which the nodes are the tree
Whole : List code.Node → List Level → Nodes → Type 0
Whole ns ls cur = (c : Forest Maker) × (ls ≡ []) × (cur ≡ nodes_of c) × (flats ns ≡ laid 0 c)

whole : (ns : List code.Node) (os : List Open) (ls : List Level) (cur : Nodes) → os ≡ [] → Builds (flats ns) (reverse os) ls cur → Whole ns ls cur
unfolding Whole
whole ns [] [] cur e (c, is, all) = (c, refl, is, all)
whole ns [] (l ∷ ls) cur e b = absurd b
whole ns (o ∷ os) ls cur e b = absurd cc

pub built_nested : (ns : List code.Node) (os : List Open) (ls : List Level) (cur : Nodes) → os ≡ [] → Builds (flats ns) (reverse os) ls cur → AreNested (ends_of_nodes ns)
unfolding Whole
built_nested ns os ls cur e b =
    let (c, none, is, all) = whole ns os ls cur e b in
    subst AreNested (sym (ends_seen ns ∙ ap ends_in all)) (laid_nested c)

pub built_tree : (t : Template) (ns : List code.Node) (os : List Open) (ls : List Level) (cur : Nodes) → template_nodes t ≡ ns → os ≡ [] → Builds (flats ns) (reverse os) ls cur → at_end ls cur ≡ Some (tree_of t)
unfolding Whole
built_tree t ns os ls cur has e b =
    let (c, none, is, all) = whole ns os ls cur e b in
    ap (λ ls. at_end ls cur) none ∙ ap Some (is ∙ ap nodes_of (sym (tree_of-laid c) ∙ ap laid.tree_of (sym all ∙ ap flats (sym has))) ∙ sym (tree_is t))
