use Rattle.std.proofs.Common.{◌≡◌, true, string_bytes, refl, sym, ap, ◌∙◌}
use mathlib.Core.Path.{subst}
use Rattle.liquid_core.specs.ExpressionView.{expression_view, steps_view}
use Rattle.liquid_core.proofs.ExpressionViews.{literal_is, variable_is}
use Rattle.liquid_meaning.specs.Reading.{grants}
use Rattle.liquid_model.specs.Uses.{everything}
use Rattle.liquid_model.specs.UseViews.{uses_view}
use Rattle.liquid_uses.specs.inside.Placing.{gives_along}
use Rattle.liquid_uses.proofs.Steps.{first_gives, led_further, led_all}
use Rattle.liquid_uses.proofs.places.+reached.Goals as goal

pub reached-returns-in-Literal : goal.reached-returns-in-Literal
unfolding grants
reached-returns-in-Literal t c = λ v h. subst (λ x. grants (uses_view c.args.uses.now) x v ≡ true) (sym (ap expression_view c.in-Literal.is ∙ literal_is c.in-Literal.field-0)) refl

pub reached_variable-returns : goal.reached_variable-returns
reached_variable-returns t c = λ v h.
    let U = uses_view c.args.uses.now in
    let steps = steps_view c.args.variable.now.indexes.items in
    let named = rw c.as_str.ensures.value at c.member_of.ensures in
    let along = subst (λ p. gives_along U p steps v ≡ true) c.of-first.ensures (c.reached_along.ensures v h) in
    subst (λ x. grants U x v ≡ true) (sym (variable_is c.args.variable.now)) (first_gives U (string_bytes c.args.variable.now.name) steps c.member_of.result named v along)

pub reached_along-loop-step-preserved : goal.reached_along-loop-step-preserved
reached_along-loop-step-preserved t c =
    let U = uses_view c.args.uses.now in
    led_further U _ _ _ _ _ _ c.step-item.is c.loop-step-test.true c.loop-step.invariant (c.led-place.ensures U (λ e. c.reached.ensures everything (sym c.is_whole-seen.ensures ∙ e)))

pub reached_along-returns : goal.reached_along-returns
reached_along-returns t c = λ v h.
    rw (← c.deref-step-items.ensures.value)
    (led_all (uses_view c.args.uses.now) _ _ _ _ c.loop-step-test.false c.loop-step.invariant v h)
