use Rattle.std.proofs.Common.{rules, ◌≡◌, length, ℕ, ◌-◌, List, [], ◌∷◌, ◌++◌, Some, map, sym, ap, ◌∙◌, arith}
use Rattle.liquid_lexer.specs.ValueReading.{word_value, steps_at, step_at, inner_of}
use Rattle.liquid_core.specs.Expression as tree
use Rattle.liquid_core.specs.ExpressionView.{expression_view, steps_view}
use Rattle.liquid_lexer.proofs.Expressions.{view-Variable}
use Rattle.liquid_lexer.specs.PieceView.{read_view}
use Rattle.std.specs.Option.{option_map}
use Rattle.liquid_lexer.proofs.StepTurns.{with_front, after_nothing, one_more, no_more, refused}
use Rattle.std.proofs.lemmas.Result.{err_from_is_err_and}
use Rattle.std.proofs.lemmas.List.{map-append}
use Rattle.liquid_lexer.proofs.ValueLaws.{step_shorter}
use Rattle.liquid_lexer.proofs.value.+read_value.Goals as goal

pub read_steps-steps-init : goal.read_steps-steps-init
read_steps-steps-init t c = (length c.args.text.now, omega arith, after_nothing _ ∙ ap (λ vs. with_front (map expression_view vs) (steps_at (inner_of c.args.depth) (length c.args.text.now) c.args.text.now)) (sym c.new-steps.ensures.items), search rules)

pub read_steps-returns-in_err-step : goal.read_steps-returns-in_err-step
read_steps-returns-in_err-step t c =
    let p = err_from_is_err_and c.from_residual.result c.from_residual.ensures.1 in
    let l = c.steps in
    rw (p.1, p.2) (refused (inner_of c.args.depth) c.in_err-step.field-0.0 l.invariant.0 (map expression_view l.steps.items) l.rest.now _ c.in_err-step.ensures l.invariant.2)

stepped : (t : ℕ) (c : goal.read_steps-In_ok-push_first t) → step_at (inner_of c.args.depth) c.steps.rest.now ≡ Some (Some (expression_view c.in-Some.step, c.in-Some.after.now))
stepped t c = c.in_ok-step.ensures ∙ ap (λ o. Some (option_map read_view o)) c.in-Some.is

pub read_steps-steps-smaller : goal.read_steps-steps-smaller
read_steps-steps-smaller t c = step_shorter c.args.depth c.steps.rest.now _ (stepped t c)

pub read_steps-steps-preserved : goal.read_steps-steps-preserved
read_steps-steps-preserved t c =
    let l = c.steps in
    let n = l.invariant.0 in
    let less = step_shorter c.args.depth l.rest.now _ (stepped t c) in
    let pushed : c.push_first.new.items.items ≡ l.steps.items ++ (c.in-Some.step ∷ []) = c.in_ok-push_first.ensures.items in (
      n - 1,
      omega (arith, less, l.invariant.1),
      l.invariant.2 ∙ one_more (inner_of c.args.depth) n (map expression_view l.steps.items) l.rest.now _ (omega (arith, less, l.invariant.1)) (stepped t c)
          ∙ ap (λ vs. with_front vs (steps_at (inner_of c.args.depth) (n - 1) c.in-Some.after.now)) (sym (ap (map expression_view) pushed ∙ map-append _ _ _)),
      search rules,
    )

pub read_steps-returns : goal.read_steps-returns
read_steps-returns t c =
    let l = c.steps in
    l.invariant.2 ∙ no_more (inner_of c.args.depth) l.invariant.0 (map expression_view l.steps.items) l.rest.now (c.in_ok-step.ensures ∙ ap (λ o. Some (option_map read_view o)) c.in_default.is)

pub read_named-returns-in_ok-name-in-Name : goal.read_named-returns-in_ok-name-in-Name
read_named-returns-in_ok-name-in-Name t c =
    let name = c.in_ok-name-in-Name.name in
    let indexes = c.in_ok-indexes-in-Name.indexes in
    let rest = c.in_ok-indexes-in-Name.rest.now in
    let seen = view-Variable name indexes ∙ ap (λ (w : List ℕ). tree.variable w (steps_view indexes.items)) c.in_ok-name-in-Name.ensures.ok in
    ap (word_value (inner_of c.args.depth) c.args.name.now c.args.rest.now) (sym c.in-Name.ensures)
    ∙ ap (option_map (λ steps. (tree.variable c.args.name.now steps.0, steps.1))) c.in_ok-indexes-in-Name.ensures
    ∙ ap (λ (x : tree.Expression). Some (x, rest)) (sym seen)
