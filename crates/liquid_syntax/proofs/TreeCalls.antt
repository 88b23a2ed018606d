-- What a tree looks up among partials is what the nodes of its list do: a test holds of each of the
-- former where it holds of each of the latter.
use Rattle.std.specs.Prelude.{◌≡◌, Bool, true, false, ◌&&◌, List, ◌++◌}
use Rattle.std.specs.List.{list_all}
use Rattle.std.proofs.lemmas.List.Folds.{list_all-append}
use mathlib.Core.Path.{refl}
use Rattle.liquid_core.specs.Expression.{Expression}
use Rattle.liquid_evaluation.specs.PartialCalls.{PartialCall, node_calls, nodes_calls, whens_calls}
use Rattle.liquid_evaluation.specs.Tree as tree
use Rattle.liquid_syntax.specs.inside.Calls.{list_calls}
use Rattle.liquid_syntax.specs.Templates.{template_nodes, tree_of}
use Rattle.liquid_syntax.specs.declared.template.Template.{Template}
use Rattle.liquid_syntax.proofs.Totals.{IsTotal, Splits, tree_total}

and_true : (a : Bool) → (a && true) ≡ a
and_true true = refl
and_true false = refl

and_assoc : (a b c : Bool) → ((a && b) && c) ≡ (a && (b && c))
and_assoc true b c = refl
and_assoc false b c = refl

and_comm : (a b : Bool) → (a && b) ≡ (b && a)
and_comm true true = refl
and_comm true false = refl
and_comm false true = refl
and_comm false false = refl

module _ (f : PartialCall → Bool) where
  abbrev both : Bool → Bool → Bool
  both a b = a && b

  abbrev in_node : tree.Node → Bool
  in_node n = list_all f (node_calls n)

  abbrev in_nodes : tree.Nodes → Bool
  in_nodes ns = list_all f (nodes_calls ns)

  abbrev in_whens : tree.Whens → Bool
  in_whens ws = list_all f (whens_calls ws)

  sum : IsTotal true both in_node in_nodes
  unfolding nodes_calls
  sum = record {
    left = λ a. refl;
    right = and_true;
    grouped = and_assoc;
    swapped = and_comm;
    nothing = refl;
    more = λ n ns. list_all-append f (node_calls n) (nodes_calls ns);
  }

  two : (b c : tree.Nodes) → list_all f (nodes_calls b ++ nodes_calls c) ≡ (true && (in_nodes b && in_nodes c))
  two b c = list_all-append f (nodes_calls b) (nodes_calls c)

  no_when : in_whens tree.no_whens ≡ true
  unfolding whens_calls
  no_when = refl

  one_when : (vs : List Expression) (b : tree.Nodes) (ws : tree.Whens) → in_whens (tree.when vs b ws) ≡ (true && (in_nodes b && in_whens ws))
  unfolding whens_calls
  one_when vs b ws = list_all-append f (nodes_calls b) (whens_calls ws)

  case_calls : (ws : tree.Whens) (o : tree.Nodes) → list_all f (whens_calls ws ++ nodes_calls o) ≡ (true && (in_whens ws && in_nodes o))
  case_calls ws o = list_all-append f (whens_calls ws) (nodes_calls o)

  splits : Splits true both in_node in_nodes
  unfolding node_calls
  splits = record {
    an_if = λ c. true;
    if_is = λ c b o. two b o;
    unless_is = λ c b o. two b o;
    a_for = λ v s w. true;
    for_is = λ v s w b o. two b o;
    a_row = λ v s w c. true;
    row_is = λ v s w c b. refl;
    a_capture = λ v. true;
    capture_is = λ v b. refl;
    a_changed = true;
    changed_is = λ b. refl;
    a_filtered = λ f. true;
    filtered_is = λ f b. refl;
    a_case = λ t. true;
    of_whens = λ t ws. in_whens ws;
    of_values = λ t vs. true;
    case_is = λ t ws o. case_calls ws o;
    no_when = λ t. no_when;
    when_is = λ t vs b ws. one_when vs b ws;
  }

pub template_calls : (t : Template) (f : PartialCall → Bool) → list_all f (nodes_calls (tree_of t)) ≡ list_all f (list_calls (template_nodes t))
template_calls t f = tree_total true (both f) (in_node f) (in_nodes f) (sum f) (splits f) t
