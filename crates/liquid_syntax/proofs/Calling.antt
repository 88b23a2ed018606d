-- The names that are gathered of a list of nodes are those of its tree.
use Rattle.std.proofs.Common.{◌≡◌, ℕ, ◌+◌, ◌<◌, ◌≤◌, Bool, true, false, ◌||◌, ◌&&◌, List, [], ◌∷◌, ◌++◌, length, take, get_or, String, Global, refl, sym, ap, ◌∙◌, codes}
use Rattle.std.specs.Prelude.{Result, Ok, Err, OnOk}
use Rattle.std.specs.List.{list_all, list_any}
use Rattle.std.specs.BTreeSet.{BTreeSet}
use Rattle.std.proofs.lemmas.List.{take_all}
use Rattle.std.proofs.lemmas.List.Folds.{list_any-append, list_any_more}
use Rattle.liquid_model.specs.Texts.{Text, same_text}
use Rattle.liquid_evaluation.specs.PartialCalls.{PartialCall, of_any_name, nodes_calls}
use Rattle.liquid_syntax.specs.Called.{Gathered, has_any_name, is_of_any_name, may_look_up, names_called}
use Rattle.liquid_syntax.specs.NameSets.{added, mentioned_in_set}
use Rattle.liquid_syntax.specs.Templates.{template_nodes, tree_of}
use Rattle.liquid_syntax.specs.inside.Calls.{list_calls, own_calls}
use Rattle.liquid_syntax.specs.inside.OwnNodes.{own_nodes}
use Rattle.liquid_syntax.specs.declared.called.Called.{Called}
use Rattle.liquid_syntax.specs.declared.node.Node.{Node}
use Rattle.liquid_syntax.specs.declared.template.Template.{Template}
use Rattle.liquid_syntax.proofs.TreeCalls.{template_calls}

-- ---- a test that some pass, by one that all pass

other : Bool → Bool
other true = false
other false = true

some_by_all : {A : Type 0} (f : A → Bool) (xs : List A) → list_any f xs ≡ other (list_all (λ x. other (f x)) xs)
unfolding other
some_by_all f [] = refl
some_by_all f (x ∷ xs) = on (f x) (some_by_all f xs)
  where
    on : (b : Bool) → list_any f xs ≡ other (list_all (λ x. other (f x)) xs) → (b || list_any f xs) ≡ other (other b && list_all (λ x. other (f x)) xs)
    on true e = refl
    on false e = e

pub some_template_calls : (t : Template) (f : PartialCall → Bool) → list_any f (nodes_calls (tree_of t)) ≡ list_any f (list_calls (template_nodes t))
some_template_calls t f = some_by_all f (nodes_calls (tree_of t)) ∙ ap other (template_calls t (λ c. other (f c))) ∙ sym (some_by_all f (list_calls (template_nodes t)))

some_each : (f : PartialCall → Bool) (ns : List Node) → list_any (λ n. list_any f (own_calls n)) ns ≡ list_any f (list_calls ns)
unfolding nodes_calls own_nodes
some_each f [] = refl
some_each f (n ∷ ns) = ap (λ r. list_any f (own_calls n) || r) (some_each f ns) ∙ sym (list_any-append f (own_calls n) (list_calls ns))

-- ---- node after node

or_grouped : (a b c : Bool) → ((a || b) || c) ≡ (a || (b || c))
or_grouped true b c = refl
or_grouped false b c = refl

pub or_none : (a : Bool) → a ≡ (a || false)
or_none true = refl
or_none false = refl

-- of the first nodes
pub record First (a : Called) (nodes : List Node) (i : ℕ) (b : Called) : Type 0 where
  pub any : b.any ≡ (a.any || list_any (λ n. has_any_name (own_calls n)) (take i nodes))
  pub names : (name : Text) → mentioned_in_set b.names name ≡ (mentioned_in_set a.names name || list_any (λ n. names_called (own_calls n) name) (take i nodes))

pub first_none : (a : Called) (nodes : List Node) → First a nodes 0 a
first_none a nodes = record { any = or_none a.any; names = λ name. or_none (mentioned_in_set a.names name) }

pub first_next : (a b c : Called) (nodes : List Node) (i : ℕ) (n : Node) → First a nodes i b → Gathered b (own_calls n) c → n ≡ get_or nodes i n → i < length nodes → First a nodes (i + 1) c
first_next a b c nodes i n first gathered is lt = record {
  any =
      gathered.any ∙ ap (λ r. r || has_any_name (own_calls n)) first.any ∙ or_grouped a.any _ _
      ∙ ap (λ m. a.any || (list_any (λ n. has_any_name (own_calls n)) (take i nodes) || has_any_name (own_calls m))) is
      ∙ ap (λ r. a.any || r) (sym (list_any_more (λ n. has_any_name (own_calls n)) nodes i n lt));
  names = λ name.
      gathered.names name ∙ ap (λ r. r || names_called (own_calls n) name) (first.names name) ∙ or_grouped (mentioned_in_set a.names name) _ _
      ∙ ap (λ m. mentioned_in_set a.names name || (list_any (λ n. names_called (own_calls n) name) (take i nodes) || names_called (own_calls m) name)) is
      ∙ ap (λ r. mentioned_in_set a.names name || r) (sym (list_any_more (λ n. names_called (own_calls n) name) nodes i n lt));
}

all_calls : (t : Template) (nodes : List Node) (i : ℕ) (f : PartialCall → Bool) → nodes ≡ template_nodes t → length nodes ≤ i → list_any (λ n. list_any f (own_calls n)) (take i nodes) ≡ list_any f (nodes_calls (tree_of t))
all_calls t nodes i f is le =
    ap (list_any (λ n. list_any f (own_calls n))) (take_all i nodes le ∙ is)
    ∙ some_each f (template_nodes t)
    ∙ sym (some_template_calls t f)

pub first_all : (a b : Called) (t : Template) (nodes : List Node) (i : ℕ) → nodes ≡ template_nodes t → First a nodes i b → length nodes ≤ i → Gathered a (nodes_calls (tree_of t)) b
first_all a b t nodes i is first le = record {
  any = first.any ∙ ap (λ r. a.any || r) (all_calls t nodes i is_of_any_name is le);
  names = λ name. first.names name ∙ ap (λ r. mentioned_in_set a.names name || r) (all_calls t nodes i (may_look_up name) is le);
}

-- ---- one place

pub on_ok : {A E : Type 0} {P Q : Type 0} (r : Result A E) → (P → Q) → OnOk r P → OnOk r Q
on_ok (Ok a) f h = f h
on_ok (Err e) f h = tt

pub gathered_one : (s n : BTreeSet (String Global)) (name : Text) → mentioned_in_set n ≡ added (name ∷ []) (mentioned_in_set s) → (other : Text) → mentioned_in_set n other ≡ (mentioned_in_set s other || (same_text other name || false))
unfolding added
gathered_one s n name is other = ap (λ f. f other) is

two_names : (b x y : Bool) → ((b || (x || false)) || (y || false)) ≡ (b || ((x || y) || false))
two_names true x y = refl
two_names false true y = refl
two_names false false y = refl

pub gathered_two : (s m n : BTreeSet (String Global)) (name liquid : Text) → mentioned_in_set m ≡ added (name ∷ []) (mentioned_in_set s) → mentioned_in_set n ≡ added (liquid ∷ []) (mentioned_in_set m) → liquid ≡ name ++ codes ".liquid" → (other : Text) → mentioned_in_set n other ≡ (mentioned_in_set s other || ((same_text other name || same_text other (name ++ codes ".liquid")) || false))
gathered_two s m n name liquid one two is other =
    gathered_one m n liquid two other ∙ ap (λ b. b || (same_text other liquid || false)) (gathered_one s m name one other)
    ∙ ap (λ t. (mentioned_in_set s other || (same_text other name || false)) || (same_text other t || false)) is
    ∙ two_names (mentioned_in_set s other) (same_text other name) (same_text other (name ++ codes ".liquid"))
