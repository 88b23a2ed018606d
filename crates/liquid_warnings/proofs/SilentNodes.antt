-- The first node that stands at a place, looked for from one place of the lists on.
use Rattle.std.proofs.Common.{◌≡◌, ◌∙◌, ℕ, ◌+◌, ◌<◌, ◌≤◌, List, [], ◌∷◌, length, ap, sym, refl, true, false}
use Rattle.std.proofs.Math.ListN.{drop, get_or}
use Rattle.std.proofs.lemmas.List.{at_drop_more}
use Rattle.std.proofs.Math.ListN.{drop_of_length-le}
use Rattle.std.specs.Prelude.{cond}
use Rattle.liquid_syntax.specs.declared.node.Node.{Node}
use Rattle.liquid_syntax.specs.declared.positions.Position.{Position}
use Rattle.liquid_warnings.specs.Silent.{is_filtered_at, is_filtered_node, stands_at}

module _ (line column i : ℕ) (ns : List Node) (ps : List Position) (n : Node) (p : Position) where
  at_place : i < length ns → i < length ps → n ≡ get_or ns i n → p ≡ get_or ps i p →
      is_filtered_at line column (drop i ns) (drop i ps) ≡ cond (stands_at line column n p)
      (is_filtered_node n) (is_filtered_at line column (drop (i + 1) ns) (drop (i + 1) ps))
  unfolding is_filtered_at
  at_place h k is_n is_p =
      at_drop_more (λ xs. is_filtered_at line column xs (drop i ps)) ns i n h
      ∙ at_drop_more (λ xs. is_filtered_at line column (get_or ns i n ∷ drop (i + 1) ns) xs) ps i p k
      ∙ ap (λ q. cond (stands_at line column (get_or ns i n) q) (is_filtered_node (get_or ns i n))
      (is_filtered_at line column (drop (i + 1) ns) (drop (i + 1) ps))) (sym is_p)
      ∙ ap (λ m. cond (stands_at line column m p) (is_filtered_node m)
      (is_filtered_at line column (drop (i + 1) ns) (drop (i + 1) ps))) (sym is_n)

  pub found : i < length ns → i < length ps → n ≡ get_or ns i n → p ≡ get_or ps i p →
      stands_at line column n p ≡ true →
      is_filtered_at line column (drop i ns) (drop i ps) ≡ is_filtered_node n
  found h k is_n is_p stands = at_place h k is_n is_p ∙ ap (λ b. cond b (is_filtered_node n)
      (is_filtered_at line column (drop (i + 1) ns) (drop (i + 1) ps))) stands

  pub passed : i < length ns → i < length ps → n ≡ get_or ns i n → p ≡ get_or ps i p →
      stands_at line column n p ≡ false →
      is_filtered_at line column (drop i ns) (drop i ps)
      ≡ is_filtered_at line column (drop (i + 1) ns) (drop (i + 1) ps)
  passed h k is_n is_p stands = at_place h k is_n is_p ∙ ap (λ b. cond b (is_filtered_node n)
      (is_filtered_at line column (drop (i + 1) ns) (drop (i + 1) ps))) stands

pub no_nodes_left : (line column i : ℕ) (ns : List Node) (ps : List Position) → length ns ≤ i →
    is_filtered_at line column (drop i ns) (drop i ps) ≡ false
unfolding is_filtered_at
no_nodes_left line column i ns ps h =
    ap (λ xs. is_filtered_at line column xs (drop i ps)) (drop_of_length-le ns h)

without_positions : (line column : ℕ) (ns : List Node) → is_filtered_at line column ns [] ≡ false
unfolding is_filtered_at
without_positions line column [] = refl
without_positions line column (n ∷ ns) = refl

pub no_positions_left : (line column i : ℕ) (ns : List Node) (ps : List Position) → length ps ≤ i →
    is_filtered_at line column (drop i ns) (drop i ps) ≡ false
no_positions_left line column i ns ps h =
    ap (λ xs. is_filtered_at line column (drop i ns) xs) (drop_of_length-le ps h)
    ∙ without_positions line column (drop i ns)
