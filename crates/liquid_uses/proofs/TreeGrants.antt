-- What a tree asks for is what the nodes of its list do.
use Rattle.std.specs.Prelude.{◌≡◌, Bool, true, false, ◌&&◌, List, [], ◌∷◌, string_bytes, codes, Option, Some, None, option_map, String, Vec, ℕ}
use mathlib.Core.Path.{refl, sym, ap, ◌∙◌}
use Rattle.std.specs.declared.alloc.Global.{Global}
use Rattle.std.specs.Map.{values_of}
use Rattle.liquid_core.specs.Expression.{Expression}
use Rattle.liquid_core.specs.ExpressionView.{expression_view}
use Rattle.liquid_core.specs.declared.expression.Expression as code
use Rattle.liquid_model.specs.Texts.{Text}
use Rattle.liquid_evaluation.specs.Tree as tree
use Rattle.liquid_language.specs.Entries.{seen}
use Rattle.liquid_syntax.specs.Flats.{arm_values}
use Rattle.liquid_syntax.specs.Slots.{filled, with_held}
use Rattle.liquid_syntax.specs.Templates.{template_nodes, tree_of}
use Rattle.liquid_syntax.specs.declared.template.Template.{Template}
use Rattle.liquid_syntax.specs.declared.node.Arm.{Arm}
use Rattle.liquid_syntax.specs.declared.node.Node.TheVariants.{Case}
use Rattle.liquid_syntax.proofs.OwnCases.{own_case}
use Rattle.liquid_syntax.proofs.Totals.{IsTotal, Splits, tree_total}
use Rattle.liquid_model.specs.Uses.{there}
use Rattle.liquid_meaning.specs.FilterNeeds.{known_needs}
use Rattle.liquid_meaning.specs.Reading.{Uses, grants, is_flat, grants_condition, grants_filters, grants_node, grants_nodes, grants_optional, grants_partials, grants_source, seen_limit, grants_values, grants_whens, grants_window}
use Rattle.liquid_uses.specs.inside.OwnGrants.{arms_granted, held_grants, list_grants, own_grants, slots_grant}

and_assoc : (a b c : Bool) → ((a && b) && c) ≡ (a && (b && c))
and_assoc true b c = refl
and_assoc false b c = refl

and_comm : (a b : Bool) → (a && b) ≡ (b && a)
and_comm true true = refl
and_comm true false = refl
and_comm false true = refl
and_comm false false = refl

and_true : (a : Bool) → a && true ≡ a
and_true true = refl
and_true false = refl

module _ (U : Uses) where
  abbrev both : Bool → Bool → Bool
  both a b = a && b

  abbrev of_node : tree.Node → Bool
  of_node n = grants_node known_needs U n

  abbrev of_nodes : tree.Nodes → Bool
  of_nodes ns = grants_nodes known_needs U ns

  abbrev of_whens : Expression → tree.Whens → Bool
  of_whens target ws = grants_whens known_needs U target ws

  abbrev of_values : Expression → List Expression → Bool
  of_values target vs = grants_values U target vs

  sum : IsTotal true both of_node of_nodes
  unfolding grants_node
  sum = record {
    left = λ a. refl;
    right = λ a. and_true a;
    grouped = and_assoc;
    swapped = and_comm;
    nothing = refl;
    more = λ n ns. refl;
  }

  one_when : (target : Expression) (vs : List Expression) (b : tree.Nodes) (ws : tree.Whens) → of_whens target (tree.when vs b ws) ≡ (of_values target vs && (of_nodes b && of_whens target ws))
  unfolding grants_node
  one_when target vs b ws = refl

  no_when : (target : Expression) → of_whens target tree.no_whens ≡ true
  unfolding grants_node
  no_when target = refl

  case_is : (target : Expression) (ws : tree.Whens) (o : tree.Nodes) → of_node (tree.case_of target ws o) ≡ (grants U target there && (of_whens target ws && of_nodes o))
  unfolding grants_node
  case_is target ws o = refl

  for_is : (v : Text) (s : tree.Source) (w : tree.Window) (b o : tree.Nodes) → of_node (tree.for_each v s w b o) ≡ ((is_flat (U (codes "forloop")) && (grants_source U v (seen_limit w) s && grants_window U w)) && (of_nodes b && of_nodes o))
  unfolding grants_node
  for_is v s w b o =
      let flat = is_flat (U (codes "forloop")) in
      let source = grants_source U v (seen_limit w) s in
      let window = grants_window U w in
      ap (λ r. flat && r) (sym (and_assoc source window (of_nodes b && of_nodes o))) ∙ sym (and_assoc flat (source && window) (of_nodes b && of_nodes o))

  row_is : (v : Text) (s : tree.Source) (w : tree.Window) (c : Option Expression) (b : tree.Nodes) → of_node (tree.tablerow v s w c b) ≡ ((grants_source U v (seen_limit w) s && (grants_optional U c && grants_window U w)) && of_nodes b)
  unfolding grants_node
  row_is v s w c b =
      let source = grants_source U v (seen_limit w) s in
      let columns = grants_optional U c in
      let window = grants_window U w in
      ap (λ x. source && x) (sym (and_assoc columns window (of_nodes b))) ∙ sym (and_assoc source (columns && window) (of_nodes b))

  splits : Splits true both of_node of_nodes
  unfolding grants_node
  splits = record {
    an_if = λ c. grants_condition U c;
    if_is = λ c b o. refl;
    unless_is = λ c b o. refl;
    a_for = λ v s w. is_flat (U (codes "forloop")) && (grants_source U v (seen_limit w) s && grants_window U w);
    for_is = for_is;
    a_row = λ v s w c. grants_source U v (seen_limit w) s && (grants_optional U c && grants_window U w);
    row_is = row_is;
    a_capture = λ v. true;
    capture_is = λ v b. refl;
    a_changed = true;
    changed_is = λ b. refl;
    a_filtered = λ f. grants_filters U f;
    filtered_is = λ f b. refl;
    a_case = λ t. grants U t there;
    of_whens = of_whens;
    of_values = of_values;
    case_is = case_is;
    no_when = no_when;
    when_is = one_when;
  }

pub template_grants : (U : Uses) (t : Template) → grants_nodes known_needs U (tree_of t) ≡ list_grants U (template_nodes t)
template_grants U t = tree_total true (both U) (of_node U) (of_nodes U) (sum U) (splits U) t

pub case_granted : (U : Uses) (target : code.Expression) (arms : Vec Arm Global) (end : ℕ) → own_grants U (Case target arms end) ≡ (grants U (expression_view target) there && arms_granted U (expression_view target) (arm_values arms.items))
unfolding grants_node
case_granted U target arms end =
    ap (grants_node known_needs U) (own_case target arms end)
    ∙ ap (λ r. grants U (expression_view target) there && r) (and_true (arms_granted U (expression_view target) (arm_values arms.items)))

pub partials_grant : (U : Uses) (es : List (String Global × Option Template)) → grants_partials known_needs U (filled (seen (option_map tree_of) es)) ≡ slots_grant U (values_of es)
unfolding grants_partials slots_grant
partials_grant U [] = refl
partials_grant U (e ∷ es) = on e.1 (partials_grant U es)
  where
    on : (held : Option Template) → grants_partials known_needs U (filled (seen (option_map tree_of) es)) ≡ slots_grant U (values_of es)
        → grants_partials known_needs U (with_held (string_bytes e.0) (option_map tree_of held) (filled (seen (option_map tree_of) es))) ≡ (held_grants U held && slots_grant U (values_of es))
    on None rest = rest
    on (Some t) rest = λ i. template_grants U t i && rest i
