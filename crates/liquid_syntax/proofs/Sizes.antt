-- The greatest number of nodes of a partial.
use Rattle.std.proofs.Common.{◌≡◌, ℕ, List, [], ◌∷◌, max, Bool, true, false, Option, Some, None, String, Global, cond, ◌≤◌, sym, subst, arith}
use Rattle.std.specs.Map.{lookup}
use Rattle.liquid_syntax.specs.Templates.{node_count_of, most_nodes, nodes_held}
use Rattle.liquid_syntax.specs.declared.template.Template.{Template}

abbrev pub Entry : Type 0
Entry = String Global × Option Template

IsSmall : ℕ → Option (Option Template) → Type 0
IsSmall n None = Unit {0}
IsSmall n (Some held) = nodes_held held ≤ n

smaller : (o : Option (Option Template)) (m n : ℕ) → m ≤ n → IsSmall m o → IsSmall n o
unfolding IsSmall
smaller None m n le s = tt
smaller (Some t) m n le s = omega arith

small_by : (b : Bool) (e : Entry) (es : List Entry) (rest : Option (Option Template)) → IsSmall (most_nodes es) rest → IsSmall (most_nodes (e ∷ es)) (cond b (Some e.1) rest)
unfolding IsSmall
small_by true e es rest s = let le : nodes_held e.1 ≤ max (nodes_held e.1) (most_nodes es) = omega arith in le
small_by false e es rest s = let le : most_nodes es ≤ max (nodes_held e.1) (most_nodes es) = omega arith in smaller rest (most_nodes es) _ le s

small_in : (test : String Global → Bool) (es : List Entry) → IsSmall (most_nodes es) (lookup test es)
unfolding IsSmall
small_in test [] = tt
small_in test (e ∷ es) = small_by (test e.0) e es (lookup test es) (small_in test es)

pub small_found : (t : Template) (test : String Global → Bool) (es : List Entry) → Some (Some t) ≡ lookup test es → node_count_of t ≤ most_nodes es
unfolding IsSmall
small_found t test es e = subst (IsSmall (most_nodes es)) (sym e) (small_in test es)
