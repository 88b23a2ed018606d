use Rattle.std.proofs.Common.{rules, arith, ◌≡◌, ℕ, List, ◌∷◌, ◌++◌, ◌+◌, codes, drop, get_or, refl, sym, ap, ◌∙◌, append_assoc}
use Rattle.std.proofs.Output.{has_written_append}
use Rattle.std.proofs.lemmas.Grind.{put_three}
use Rattle.std.proofs.lemmas.List.{drop_more}
use Rattle.liquid_core.specs.ExpressionView.{expression_view, steps_view}
use Rattle.liquid_core.specs.Spelled.{as_step, spelled, spelled_steps}
use Rattle.liquid_core.proofs.spelled.+write_steps.Goals as goal

pub write_steps-loop-index-preserved : goal.write_steps-loop-index-preserved
write_steps-loop-index-preserved g t c plain =
    let xs = c.args.indexes.now in
    let i = c.loop-index.index-index in
    let x = c.index-item.result in
    let at : x ≡ get_or xs i x = search rules in
    let next : drop i xs ≡ x ∷ drop (i + 1) xs = drop_more xs i x (omega arith) ∙ ap (λ z. z ∷ drop (i + 1) xs) (sym at) in
    let before = c.loop-index.invariant plain in
    let one = c.in_ok-write_step.ensures before.1.plain (search rules) in
    let rest = spelled_steps (steps_view (drop (i + 1) xs)) in (
      before.0 ++ as_step (expression_view x) (spelled (expression_view x)),
      has_written_append _ _ _ _ _ _ before.1 one,
      append_assoc before.0 (as_step (expression_view x) (spelled (expression_view x))) rest ∙ ap (λ l. before.0 ++ spelled_steps (steps_view l)) (sym next) ∙ before.2,
    )

pub write_bracketed-returns : goal.write_bracketed-returns
write_bracketed-returns g t c = λ plain ok.
    let one = c.in_ok-write_str.ensures.writes plain (search rules) in
    let two = c.in_ok-write_variable.ensures one.plain (search rules) in
    let three = c.write_str-2.ensures.writes two.plain ok in
    put_three _ _ _ _ _ _ _ _ _ one two three refl
