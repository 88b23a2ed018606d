use Rattle.std.proofs.Common.{refl, sym, ap, ◌∙◌}
use Rattle.std.proofs.lemmas.Result.{err_from_is_err_and}
use Rattle.liquid_model.specs.Cow.{cow_view}
use Rattle.liquid_model.specs.Order.{same}
use Rattle.liquid_model.specs.View.{view}
use Rattle.liquid_core.specs.ExpressionView.{expression_view}
use Rattle.liquid_core.specs.States.{environment_of}
use Rattle.liquid_engine.proofs.CaseChoices.{value_equal, value_other, value_refused, values_over}
use Rattle.liquid_engine.proofs.choice.is_among.Goals as goal

pub loop-value-init : goal.loop-value-init
loop-value-init c = refl

pub returns-in_err-evaluate : goal.returns-in_err-evaluate
returns-in_err-evaluate c =
    let p = err_from_is_err_and c.from_residual.result c.from_residual.ensures.1 in
    rw (p.1, p.2) (value_refused expression_view (view c.args.target.now) (environment_of c.args.state.now) c.args.values.now c.loop-value.value-index c.value-item.result c.loop-value-test.true c.value-item.is c.loop-value.invariant c.in_err-evaluate.field-0.0.kind c.in_err-evaluate.ensures.value)

pub returns-then-eq : goal.returns-then-eq
returns-then-eq c =
    value_equal expression_view (view c.args.target.now) (environment_of c.args.state.now) c.args.values.now c.loop-value.value-index c.value-item.result c.loop-value-test.true c.value-item.is c.loop-value.invariant
    (cow_view c.in_ok-evaluate.field-0) c.in_ok-evaluate.ensures.value (ap (same (view c.args.target.now)) (sym c.as_value.ensures) ∙ sym c.if-eq.ensures.value)

pub loop-value-preserved : goal.loop-value-preserved
loop-value-preserved c =
    value_other expression_view (view c.args.target.now) (environment_of c.args.state.now) c.args.values.now c.loop-value.value-index c.value-item.result c.loop-value-test.true c.value-item.is c.loop-value.invariant
    (cow_view c.in_ok-evaluate.field-0) c.in_ok-evaluate.ensures.value (ap (same (view c.args.target.now)) (sym c.as_value.ensures) ∙ sym c.if-eq.ensures.value)

pub returns : goal.returns
returns c = values_over expression_view (view c.args.target.now) (environment_of c.args.state.now) c.args.values.now c.loop-value.value-index c.loop-value-test.false c.loop-value.invariant
