use Rattle.std.proofs.Common.{rules, arith, ◌≡◌, ℕ, List, ◌∷◌, ◌++◌, ◌+◌, codes, drop, get_or, sym, ap, ◌∙◌, append_assoc}
use Rattle.std.proofs.Output.{has_written_append}
use Rattle.std.proofs.lemmas.List.{drop_more}
use Rattle.liquid_core.specs.ExpressionView.{expression_view, steps_view}
use Rattle.liquid_core.specs.Written.{written_form, written_steps}
use Rattle.liquid_core.proofs.written.+write_expression.Goals as goal

regroup : (a b c d e : List ℕ) → (((a ++ b) ++ c) ++ d) ++ e ≡ a ++ (b ++ (c ++ (d ++ e)))
regroup a b c d e = simp append_assoc

pub write_steps-loop-index-preserved : goal.write_steps-loop-index-preserved
write_steps-loop-index-preserved g t c plain =
    let xs = c.deref-index-items.result.now in
    let i = c.loop-index.index-index in
    let x = c.index-item.result in
    let at : x ≡ get_or xs i x = search rules in
    let next : drop i xs ≡ x ∷ drop (i + 1) xs = drop_more xs i x (omega arith) ∙ ap (λ z. z ∷ drop (i + 1) xs) (sym at) in
    let before = c.loop-index.invariant plain in
    let one = c.in_ok-write_str.ensures.writes before.1.plain (search rules) in
    let two = c.in_ok-write_expression.ensures one.plain (search rules) in
    let three = c.in_ok-write_str-2.ensures.writes two.plain (search rules) in
    let rest = written_steps (steps_view (drop (i + 1) xs)) in (
      ((before.0 ++ codes "[") ++ written_form (expression_view x)) ++ codes "]",
      has_written_append _ _ _ _ _ _ (has_written_append _ _ _ _ _ _ (has_written_append _ _ _ _ _ _ before.1 one) two) three,
      regroup before.0 (codes "[") (written_form (expression_view x)) (codes "]") rest ∙ ap (λ l. before.0 ++ written_steps (steps_view l)) (sym next) ∙ before.2,
    )
