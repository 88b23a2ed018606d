-- The names of nodes, part after part.
use Rattle.std.proofs.Common.{◌≡◌, List, [], ◌∷◌, length, map, string_bytes, codes, refl}
use Rattle.liquid_core.specs.ExpressionView.{expression_view}
use Rattle.liquid_evaluation.specs.Names.{all_names, bound_names, expression_names, include_name, nodes_names, target_names, whens_names}
use Rattle.liquid_evaluation.proofs.Telling.{IsEach}
use Rattle.liquid_syntax.specs.Flats.{arm_values, bindings_view}
use Rattle.liquid_syntax.specs.inside.Mentions.{arms_names, held_names, list_names, own_names, partials_list_names}
use Rattle.liquid_syntax.specs.inside.OwnNodes.{own_nodes, own_whens}
use Rattle.liquid_syntax.specs.declared.node.Arm.{Arm}
use Rattle.liquid_syntax.specs.declared.node.Binding.{Binding}

pub each_node : IsEach own_names list_names
unfolding nodes_names own_nodes
each_node = record { none = refl; more = λ n ns. refl }

pub each_arm : IsEach (λ (arm : Arm). all_names (map expression_view arm.values.items)) (λ arms. arms_names (arm_values arms))
unfolding whens_names own_whens
each_arm = record { none = refl; more = λ arm arms. refl }

pub each_target : IsEach (λ (pair : Binding). string_bytes pair.name ∷ []) (λ pairs. target_names (bindings_view pairs))
unfolding target_names
each_target = record { none = refl; more = λ pair pairs. refl }

pub each_value : IsEach (λ (pair : Binding). expression_names (expression_view pair.value)) (λ pairs. bound_names (bindings_view pairs))
unfolding bound_names
each_value = record { none = refl; more = λ pair pairs. refl }

pub each_slot : IsEach held_names partials_list_names
unfolding partials_list_names
each_slot = record { none = refl; more = λ held more. refl }

-- ---- the name of a jekyll `include` with pairs

pub no_include : (pairs : List Binding) → length pairs ≡ 0 → include_name (bindings_view pairs) ≡ []
unfolding include_name
no_include [] none = refl
no_include (pair ∷ pairs) none = absurd cc

pub an_include : (pairs : List Binding) → (length pairs ≡ 0 → ⊥) → include_name (bindings_view pairs) ≡ codes "include" ∷ []
unfolding include_name
an_include [] some = absurd (some refl)
an_include (pair ∷ pairs) some = refl
