use Rattle.std.proofs.Common.{◌≡◌, List, ◌∷◌, ◌+◌, string_bytes, codes, drop, sym, ap, subst, ◌∙◌, ◌++◌}
use Rattle.std.proofs.lemmas.List.{drop_more}
use Rattle.std.proofs.lemmas.Result.{err_from_is_err_and}
use Rattle.liquid_model.specs.Appended.{Begun, Appended}
use Rattle.liquid_model.specs.Texts.{Text}
use Rattle.liquid_model.proofs.Appending.{Going, going_on, going_wrong, appended_then, appended_stop}
use Rattle.liquid_core.specs.ExpressionView.{expression_view, steps_view}
use Rattle.liquid_core.specs.Written.{written_form, written_steps}
use Rattle.liquid_core.specs.declared.expression.Expression.{Expression}
use Rattle.liquid_core.proofs.ExpressionViews.{variable_is}
use Rattle.liquid_core.proofs.append_written.+append_expression.Goals as goal

-- a step is an opening bracket, its written form and a closing one
next_step : (xs : List Expression) (x : Expression) (more : List Expression) (old here text : Text) → xs ≡ x ∷ more → Going old here text (written_steps (steps_view xs))
    → Going old here text (codes "[" ++ (written_form (expression_view x) ++ (codes "]" ++ written_steps (steps_view more))))
next_step xs x more old here text is g = subst (λ ys. Going old here text (written_steps (steps_view ys))) is g

pub append_steps-returns-in_err-append_str : goal.append_steps-returns-in_err-append_str
append_steps-returns-in_err-append_str t c =
    let p = err_from_is_err_and c.from_residual.result c.from_residual.ensures.1 in
    let items = c.deref-index-items.result.now in
    let i = c.loop-index.index-index in
    let x = c.index-item.result in
    let rest : drop i items ≡ x ∷ drop (i + 1) items = drop_more items i x c.loop-index-test.true ∙ ap (λ y. y ∷ drop (i + 1) items) (sym c.index-item.is) in
    let opened = next_step _ x (drop (i + 1) items) _ _ _ rest c.loop-index.invariant in
    let wrong = c.in_err-append_str.ensures in
    let begun = going_wrong _ _ _ _ _ _ opened wrong.1 in
    rw (p.1, p.2) (wrong.0, subst (λ xs. Begun (string_bytes c.args.out.now) (string_bytes c.append_str.new.out) (written_steps (steps_view xs))) c.deref-index-items.ensures.value begun)

pub append_steps-returns-in_err-append_expression : goal.append_steps-returns-in_err-append_expression
append_steps-returns-in_err-append_expression t c =
    let p = err_from_is_err_and c.from_residual-in_err-append_expression.result c.from_residual-in_err-append_expression.ensures.1 in
    let items = c.deref-index-items.result.now in
    let i = c.loop-index.index-index in
    let x = c.index-item.result in
    let rest : drop i items ≡ x ∷ drop (i + 1) items = drop_more items i x c.loop-index-test.true ∙ ap (λ y. y ∷ drop (i + 1) items) (sym c.index-item.is) in
    let opened = going_on _ _ _ _ _ _ (next_step _ x (drop (i + 1) items) _ _ _ rest c.loop-index.invariant) c.in_ok-append_str.ensures in
    let wrong = c.in_err-append_expression.ensures in
    let begun = going_wrong _ _ _ _ _ _ opened wrong.1 in
    rw (p.1, p.2) (wrong.0, subst (λ xs. Begun (string_bytes c.args.out.now) (string_bytes c.append_expression.new.out) (written_steps (steps_view xs))) c.deref-index-items.ensures.value begun)

pub append_steps-returns-in_err-append_str-2 : goal.append_steps-returns-in_err-append_str-2
append_steps-returns-in_err-append_str-2 t c =
    let p = err_from_is_err_and c.from_residual-in_err-append_str-2.result c.from_residual-in_err-append_str-2.ensures.1 in
    let items = c.deref-index-items.result.now in
    let i = c.loop-index.index-index in
    let x = c.index-item.result in
    let rest : drop i items ≡ x ∷ drop (i + 1) items = drop_more items i x c.loop-index-test.true ∙ ap (λ y. y ∷ drop (i + 1) items) (sym c.index-item.is) in
    let opened = going_on _ _ _ _ _ _ (next_step _ x (drop (i + 1) items) _ _ _ rest c.loop-index.invariant) c.in_ok-append_str.ensures in
    let shown = going_on _ _ _ _ _ _ opened c.in_ok-append_expression.ensures in
    let wrong = c.in_err-append_str-2.ensures in
    let begun = going_wrong _ _ _ _ _ _ shown wrong.1 in
    rw (p.1, p.2) (wrong.0, subst (λ xs. Begun (string_bytes c.args.out.now) (string_bytes c.append_str-in-loop-index.new.out) (written_steps (steps_view xs))) c.deref-index-items.ensures.value begun)

pub append_variable-returns-in_err-append_str : goal.append_variable-returns-in_err-append_str
append_variable-returns-in_err-append_str t c =
    let p = err_from_is_err_and c.from_residual.result c.from_residual.ensures.1 in
    let v = c.args.variable.now in
    let wrong = c.in_err-append_str.ensures in
    let begun = subst (λ n. Begun (string_bytes c.args.out.now) (string_bytes c.append_str.new.out) n) c.as_str.ensures.value wrong.1 in
    let stopped = appended_stop c.in_err-append_str.field-0.0 _ _ (string_bytes v.name) (written_steps (steps_view v.indexes.items)) (wrong.0, begun) in
    rw (p.1, p.2) (stopped.0, subst (λ x. Begun (string_bytes c.args.out.now) (string_bytes c.append_str.new.out) (written_form x)) (sym (variable_is v)) stopped.1)

pub append_variable-returns : goal.append_variable-returns
append_variable-returns t c =
    let v = c.args.variable.now in
    let there = c.in_ok-append_str.ensures ∙ ap (λ n. string_bytes c.args.out.now ++ n) c.as_str.ensures.value in
    subst (λ x. Appended c.append_steps.result (string_bytes c.args.out.now) (string_bytes c.append_steps.new.out) (written_form x)) (sym (variable_is v))
    (appended_then c.append_steps.result _ _ _ (string_bytes v.name) (written_steps (steps_view v.indexes.items)) there c.append_steps.ensures)
