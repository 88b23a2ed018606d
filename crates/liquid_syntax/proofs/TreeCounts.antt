-- The count over a tree is the length of its list.
use Rattle.std.proofs.Common.{◌≡◌, ℕ, ◌+◌, List, [], ◌∷◌, length, refl, ap, ◌∙◌, arith}
use Rattle.liquid_core.specs.Expression.{Expression}
use Rattle.liquid_evaluation.specs.Counts.{count_of_node, count_of_nodes, count_of_whens}
use Rattle.liquid_evaluation.specs.Tree as tree
use Rattle.liquid_syntax.specs.Flats.{arm_values}
use Rattle.liquid_syntax.specs.inside.OwnNodes.{own_node, own_nodes, own_whens}
use Rattle.liquid_syntax.specs.Templates.{template_nodes, tree_of}
use Rattle.liquid_syntax.specs.declared.node.Node.{Node}
use Rattle.liquid_syntax.specs.declared.node.Node.TheVariants.{Text as Plain, Output, Assign, Raw, Comment, If, Unless, Capture, Case, For, TableRow, Break, Continue, Increment, Decrement, Cycle, IfChanged, Filtered, Include, JekyllInclude, Render, RenderEach}
use Rattle.liquid_syntax.specs.declared.template.Template.{Template}
use Rattle.liquid_syntax.proofs.OwnCases.{own_case}
use Rattle.liquid_syntax.proofs.Totals.{IsTotal, Splits, tree_total}

abbrev plus : ℕ → ℕ → ℕ
plus a b = a + b

sum : IsTotal 0 plus count_of_node count_of_nodes
unfolding count_of_nodes
sum = record {
  left = λ a. omega arith;
  right = λ a. omega arith;
  grouped = λ a b c. omega arith;
  swapped = λ a b. omega arith;
  nothing = refl;
  more = λ n ns. refl;
}

splits : Splits 0 plus count_of_node count_of_nodes
unfolding count_of_node
splits = record {
  an_if = λ c. 1;
  if_is = λ c b o. refl;
  unless_is = λ c b o. refl;
  a_for = λ v s w. 1;
  for_is = λ v s w b o. refl;
  a_row = λ v s w c. 1;
  row_is = λ v s w c b. refl;
  a_capture = λ v. 1;
  capture_is = λ v b. refl;
  a_changed = 1;
  changed_is = λ b. refl;
  a_filtered = λ f. 1;
  filtered_is = λ f b. refl;
  a_case = λ t. 1;
  of_whens = λ t ws. count_of_whens ws;
  of_values = λ t vs. 0;
  case_is = λ t ws o. refl;
  no_when = λ t. refl;
  when_is = λ t vs b ws. omega arith;
}

no_arms : (vss : List (List Expression)) → count_of_whens (own_whens vss) ≡ 0
unfolding count_of_whens own_whens
no_arms [] = refl
no_arms (vs ∷ vss) = omega (arith, no_arms vss)

-- one case for each kind of node
own_count : (n : Node) → count_of_node (own_node n) ≡ 1
unfolding count_of_node
own_count (Plain t) = refl
own_count (Output chain) = refl
own_count (Assign target chain) = refl
own_count (Raw t) = refl
own_count Comment = refl
own_count (If condition ends) = refl
own_count (Unless condition ends) = refl
own_count (Capture target end) = refl
own_count (Case target arms end) =
    ap count_of_node (own_case target arms end) ∙ ap (λ k. 1 + (k + 0)) (no_arms (arm_values arms.items))
own_count (For f ends) = refl
own_count (TableRow r end) = refl
own_count Break = refl
own_count Continue = refl
own_count (Increment target) = refl
own_count (Decrement target) = refl
own_count (Cycle group values) = refl
own_count (IfChanged end) = refl
own_count (Filtered filters end) = refl
own_count (Include partial pairs) = refl
own_count (JekyllInclude partial pairs) = refl
own_count (Render partial pairs) = refl
own_count (RenderEach partial each pairs) = refl

list_length : (ns : List Node) → count_of_nodes (own_nodes ns) ≡ length ns
unfolding count_of_nodes own_nodes
list_length [] = refl
list_length (n ∷ ns) = omega (arith, own_count n, list_length ns)

pub template_count : (t : Template) → count_of_nodes (tree_of t) ≡ length (template_nodes t)
template_count t = tree_total 0 plus count_of_node count_of_nodes sum splits t ∙ list_length (template_nodes t)
