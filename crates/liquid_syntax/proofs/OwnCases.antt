-- A `case` with nothing in its bodies.
use Rattle.std.specs.Prelude.{◌≡◌, ℕ, List, [], ◌∷◌, ◌++◌, map, Vec}
use Rattle.std.specs.declared.alloc.Global.{Global}
use Rattle.std.proofs.lemmas.List.{append-nil}
use mathlib.Core.Path.{refl, ap, ◌∙◌}
use Rattle.liquid_core.specs.ExpressionView.{expression_view}
use Rattle.liquid_core.specs.Expression as core
use Rattle.liquid_core.specs.declared.expression.Expression.{Expression}
use Rattle.liquid_evaluation.specs.Names.{expression_names, node_names, whens_names}
use Rattle.liquid_evaluation.specs.PartialCalls.{node_calls, whens_calls}
use Rattle.liquid_evaluation.specs.Tree as tree
use Rattle.liquid_syntax.specs.Flats.{arm_ends, arm_values, values_in, with_arms}
use Rattle.liquid_syntax.specs.inside.Calls.{own_calls}
use Rattle.liquid_syntax.specs.inside.Mentions.{arms_names, own_names}
use Rattle.liquid_syntax.specs.inside.OwnNodes.{own_node, own_whens}
use Rattle.liquid_syntax.specs.declared.node.Arm.{Arm}
use Rattle.liquid_syntax.specs.declared.node.Node.TheVariants.{Case}

arms_empty : (make : tree.Whens → tree.Nodes → tree.Node) (arms : List Arm) (z : ℕ) → with_arms make (arm_values arms) (map (λ end. tree.no_nodes) (arm_ends arms ++ z ∷ [])) ≡ make (own_whens (arm_values arms)) tree.no_nodes
unfolding own_whens
arms_empty make [] z = refl
arms_empty make (arm ∷ arms) z = arms_empty (λ ws o. make (tree.when (values_in arm) tree.no_nodes ws) o) arms z

pub own_case : (target : Expression) (arms : Vec Arm Global) (end : ℕ) → own_node (Case target arms end) ≡ tree.case_of (expression_view target) (own_whens (arm_values arms.items)) tree.no_nodes
own_case target arms end = arms_empty (λ ws o. tree.case_of (expression_view target) ws o) arms.items end

pub case_names : (target : Expression) (arms : Vec Arm Global) (end : ℕ) → own_names (Case target arms end) ≡ expression_names (expression_view target) ++ arms_names (arm_values arms.items)
unfolding node_names
case_names target arms end =
    ap node_names (own_case target arms end)
    ∙ ap (λ names. expression_names (expression_view target) ++ names) (append-nil (arms_names (arm_values arms.items)))

no_arm_calls : (vss : List (List core.Expression)) → whens_calls (own_whens vss) ≡ []
unfolding node_calls own_whens
no_arm_calls [] = refl
no_arm_calls (vs ∷ vss) = no_arm_calls vss

pub no_case_calls : (target : Expression) (arms : Vec Arm Global) (end : ℕ) → own_calls (Case target arms end) ≡ []
unfolding node_calls
no_case_calls target arms end =
    ap node_calls (own_case target arms end)
    ∙ append-nil (whens_calls (own_whens (arm_values arms.items)))
    ∙ no_arm_calls (arm_values arms.items)
