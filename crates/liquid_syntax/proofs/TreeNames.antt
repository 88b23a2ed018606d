-- The names of a tree are those of the nodes of its list: whatever a name is tested for, one of the
-- former passes where one of the latter does.
use Rattle.std.specs.Prelude.{◌≡◌, Bool, false, ◌||◌, List, [], ◌∷◌, ◌++◌, codes, Option}
use Rattle.std.specs.List.{list_any}
use mathlib.Core.Path.{refl, sym, ap, ◌∙◌}
use Rattle.std.proofs.Common.{append_assoc}
use Rattle.std.proofs.Math.Bool.{or_comm}
use Rattle.liquid_core.specs.Environment.{Names}
use Rattle.liquid_core.specs.Expression.{Expression}
use Rattle.liquid_model.specs.Texts.{Text}
use Rattle.liquid_evaluation.specs.Names.{all_names, condition_names, expression_names, filters_names, node_names, nodes_names, optional_names, source_names, whens_names, window_names}
use Rattle.liquid_evaluation.specs.Tree as tree
use Rattle.liquid_syntax.specs.inside.Mentions.{list_names}
use Rattle.liquid_syntax.specs.Templates.{template_nodes, tree_of}
use Rattle.liquid_syntax.specs.declared.template.Template.{Template}
use Rattle.liquid_syntax.specs.inside.NameVisitors.{any_both, or_assoc, or_false}
use Rattle.liquid_syntax.proofs.Totals.{IsTotal, Splits, tree_total}

module _ (N : Names) where
  abbrev either : Bool → Bool → Bool
  either a b = a || b

  abbrev in_node : tree.Node → Bool
  in_node n = list_any N (node_names n)

  abbrev in_nodes : tree.Nodes → Bool
  in_nodes ns = list_any N (nodes_names ns)

  abbrev in_whens : tree.Whens → Bool
  in_whens ws = list_any N (whens_names ws)

  abbrev in_values : List Expression → Bool
  in_values vs = list_any N (all_names vs)

  sum : IsTotal false either in_node in_nodes
  unfolding nodes_names
  sum = record {
    left = λ a. refl;
    right = λ a. sym (or_false a);
    grouped = or_assoc;
    swapped = or_comm;
    nothing = refl;
    more = λ n ns. any_both (node_names n) (nodes_names ns) N;
  }

  -- own names, and those of one body, or of two
  one : (xs : List Text) (b : tree.Nodes) → list_any N (xs ++ nodes_names b) ≡ (list_any N xs || in_nodes b)
  one xs b = any_both xs (nodes_names b) N

  two : (xs : List Text) (b c : tree.Nodes) → list_any N (xs ++ (nodes_names b ++ nodes_names c)) ≡ (list_any N xs || (in_nodes b || in_nodes c))
  two xs b c = any_both xs (nodes_names b ++ nodes_names c) N ∙ ap (λ r. list_any N xs || r) (any_both (nodes_names b) (nodes_names c) N)

  -- the `when` parts of a `case`
  one_when : (vs : List Expression) (b : tree.Nodes) (ws : tree.Whens) → in_whens (tree.when vs b ws) ≡ (in_values vs || (in_nodes b || in_whens ws))
  unfolding whens_names
  one_when vs b ws = any_both (all_names vs) (nodes_names b ++ whens_names ws) N ∙ ap (λ r. in_values vs || r) (any_both (nodes_names b) (whens_names ws) N)

  no_when : in_whens tree.no_whens ≡ false
  unfolding whens_names
  no_when = refl

  case_named : (target : Expression) (ws : tree.Whens) (o : tree.Nodes) → in_node (tree.case_of target ws o) ≡ (list_any N (expression_names target) || (in_whens ws || in_nodes o))
  unfolding node_names
  case_named target ws o = any_both (expression_names target) (whens_names ws ++ nodes_names o) N ∙ ap (λ r. list_any N (expression_names target) || r) (any_both (whens_names ws) (nodes_names o) N)

  -- the names of a loop stand after one another
  for_named : (v : Text) (s : tree.Source) (w : tree.Window) (b o : tree.Nodes) → in_node (tree.for_each v s w b o) ≡ (list_any N (codes "forloop" ∷ v ∷ (source_names s ++ window_names w)) || (in_nodes b || in_nodes o))
  unfolding node_names
  for_named v s w b o =
      ap (λ rest. list_any N (codes "forloop" ∷ v ∷ rest)) (sym (append_assoc (source_names s) (window_names w) (nodes_names b ++ nodes_names o)))
      ∙ two (codes "forloop" ∷ v ∷ (source_names s ++ window_names w)) b o

  row_named : (v : Text) (s : tree.Source) (w : tree.Window) (c : Option Expression) (b : tree.Nodes) → in_node (tree.tablerow v s w c b) ≡ (list_any N (codes "tablerow" ∷ v ∷ (source_names s ++ (optional_names c ++ window_names w))) || in_nodes b)
  unfolding node_names
  row_named v s w c b =
      let source = source_names s in
      let cols = optional_names c in
      let window = window_names w in
      ap (λ rest. list_any N (codes "tablerow" ∷ v ∷ rest)) (ap (λ rest. source ++ rest) (sym (append_assoc cols window (nodes_names b))) ∙ sym (append_assoc source (cols ++ window) (nodes_names b)))
      ∙ one (codes "tablerow" ∷ v ∷ (source ++ (cols ++ window))) b

  splits : Splits false either in_node in_nodes
  unfolding node_names
  splits = record {
    an_if = λ c. list_any N (condition_names c);
    if_is = λ c b o. two (condition_names c) b o;
    unless_is = λ c b o. two (condition_names c) b o;
    a_for = λ v s w. list_any N (codes "forloop" ∷ v ∷ (source_names s ++ window_names w));
    for_is = for_named;
    a_row = λ v s w c. list_any N (codes "tablerow" ∷ v ∷ (source_names s ++ (optional_names c ++ window_names w)));
    row_is = row_named;
    a_capture = λ v. list_any N (v ∷ []);
    capture_is = λ v b. one (v ∷ []) b;
    a_changed = false;
    changed_is = λ b. one [] b;
    a_filtered = λ f. list_any N (filters_names f);
    filtered_is = λ f b. one (filters_names f) b;
    a_case = λ t. list_any N (expression_names t);
    of_whens = λ t ws. in_whens ws;
    of_values = λ t vs. in_values vs;
    case_is = case_named;
    no_when = λ t. no_when;
    when_is = λ t vs b ws. one_when vs b ws;
  }

pub template_mentions : (t : Template) (N : Names) → list_any N (nodes_names (tree_of t)) ≡ list_any N (list_names (template_nodes t))
template_mentions t N = tree_total false (either N) (in_node N) (in_nodes N) (sum N) (splits N) t
