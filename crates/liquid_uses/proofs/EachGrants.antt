-- Tests of a list, item after item.
use Rattle.std.proofs.Common.{◌≡◌, ℕ, suc, ◌+◌, ◌<◌, ◌≤◌, Bool, true, false, ◌&&◌, List, [], ◌∷◌, length, drop, get_or, map, refl, sym, ap, ◌∙◌, add-one, drop-cons}
use Rattle.std.proofs.lemmas.List.{drop_all}
use Rattle.liquid_core.specs.Expression as tree
use Rattle.liquid_core.specs.ExpressionView.{expression_view}
use Rattle.liquid_core.specs.declared.expression.Expression.{Expression}
use Rattle.liquid_evaluation.specs.ChainView.{chain_filter_view}
use Rattle.liquid_evaluation.specs.ConditionView.{atom_view, atoms_view}
use Rattle.liquid_evaluation.specs.declared.chain.ChainFilter.{ChainFilter}
use Rattle.liquid_evaluation.specs.declared.comparison.ComparisonOperator.{ComparisonOperator}
use Rattle.liquid_evaluation.specs.declared.comparison.ComparisonOperator.TheVariants.{Equals}
use Rattle.liquid_evaluation.specs.declared.condition.Atom.{Atom}
use Rattle.liquid_syntax.specs.Flats.{arm_values, bindings_view}
use Rattle.liquid_syntax.specs.inside.OwnNodes.{own_nodes, own_whens}
use Rattle.liquid_syntax.specs.declared.node.Arm.{Arm}
use Rattle.liquid_syntax.specs.declared.node.Binding.{Binding}
use Rattle.liquid_syntax.specs.declared.node.Node.{Node}
use Rattle.std.specs.Prelude.{Vec, string_bytes}
use Rattle.std.specs.declared.alloc.Global.{Global}
use Rattle.liquid_model.specs.Uses.{everything}
use Rattle.liquid_meaning.specs.Reading.{Uses, all_of, bound_use, grants, grants_all, grants_atom, grants_atoms, grants_bindings, grants_compared, grants_condition, grants_filters, grants_nodes, grants_values, grants_whens, use_beside}
use Rattle.liquid_uses.specs.inside.OwnGrants.{arms_granted, held_grants, list_grants, own_grants, slots_grant}

pub record IsEach {X : Type 0} (one : X → Bool) (all : List X → Bool) : Type 0 where
  pub none : all [] ≡ true
  pub more : (x : X) (xs : List X) → all (x ∷ xs) ≡ (one x && all xs)

module _ {X : Type 0} {one : X → Bool} {all : List X → Bool} (each : IsEach one all) where
  next_item : (xs : List X) (i : ℕ) (x : X) → x ≡ get_or xs i x → i < length xs → all (drop i xs) ≡ (one x && all (drop (i + 1) xs))
  next_item xs i x is lt =
      let e : drop i xs ≡ x ∷ drop (i + 1) xs = rw add-one (drop-cons xs i x lt ∙ ap (λ y. y ∷ drop (suc i) xs) (sym is)) in
      ap all e ∙ each.more x (drop (i + 1) xs)

  -- where the items from a place on pass, all do
  abbrev pub Continues : List X → ℕ → Type 0
  Continues xs i = all (drop i xs) ≡ true → all xs ≡ true

  pub item_passed : (xs : List X) (i : ℕ) (x : X) → Continues xs i → one x ≡ true → x ≡ get_or xs i x → i < length xs → Continues xs (i + 1)
  item_passed xs i x goes passed is lt rest = goes (next_item xs i x is lt ∙ ap (λ b. b && all (drop (i + 1) xs)) passed ∙ rest)

  pub all_passed : (xs : List X) (i : ℕ) → Continues xs i → length xs ≤ i → all xs ≡ true
  all_passed xs i goes le = goes (ap all (drop_all i xs le) ∙ each.none)

module _ (U : Uses) where
  pub each_expression : IsEach (λ (x : Expression). grants U (expression_view x) everything) (λ xs. grants_all U (map expression_view xs))
  unfolding grants_all
  each_expression = record { none = refl; more = λ x xs. refl }

  pub each_filter : IsEach (λ (f : ChainFilter). grants_all U (map expression_view f.arguments.items)) (λ fs. grants_filters U (map chain_filter_view fs))
  unfolding grants_filters
  each_filter = record { none = refl; more = λ f fs. refl }

  pub each_atom : IsEach (λ (a : Atom). grants_atom U (atom_view a)) (λ atoms. grants_atoms U (map atom_view atoms))
  unfolding grants_atoms
  each_atom = record { none = refl; more = λ a atoms. refl }

  pub each_conjunction : IsEach (λ (c : Vec Atom Global). grants_atoms U (atoms_view c)) (λ cs. grants_condition U (map atoms_view cs))
  unfolding grants_condition
  each_conjunction = record { none = refl; more = λ c cs. refl }

  pub each_pair : IsEach (λ (pair : Binding). grants U (expression_view pair.value) (bound_use U (string_bytes pair.name))) (λ pairs. grants_bindings U (bound_use U) (bindings_view pairs))
  unfolding grants_bindings
  each_pair = record { none = refl; more = λ pair pairs. refl }

  pub each_whole_pair : IsEach (λ (pair : Binding). grants U (expression_view pair.value) everything) (λ pairs. grants_bindings U all_of (bindings_view pairs))
  unfolding grants_bindings
  each_whole_pair = record { none = refl; more = λ pair pairs. refl }

  pub both_sides : (x : tree.Expression) (comparison : ComparisonOperator) (y : tree.Expression) → grants U x (use_beside comparison y) ≡ true → grants U y (use_beside comparison x) ≡ true → grants_compared U x comparison y ≡ true
  unfolding grants_compared
  both_sides x comparison y h k = λ i. h i && k i

  pub each_value : (target : tree.Expression) → IsEach (λ (x : Expression). grants_compared U target Equals (expression_view x)) (λ xs. grants_values U target (map expression_view xs))
  unfolding grants_values
  each_value target = record { none = refl; more = λ x xs. refl }

  pub each_arm : (target : tree.Expression) → IsEach (λ (arm : Arm). grants_values U target (map expression_view arm.values.items)) (λ arms. arms_granted U target (arm_values arms))
  unfolding grants_whens own_whens
  each_arm target = record { none = refl; more = λ arm arms. refl }

  pub each_node : IsEach (own_grants U) (list_grants U)
  unfolding grants_nodes own_nodes
  each_node = record { none = refl; more = λ n ns. refl }

  pub each_slot : IsEach (held_grants U) (slots_grant U)
  unfolding slots_grant
  each_slot = record { none = refl; more = λ t ts. refl }
