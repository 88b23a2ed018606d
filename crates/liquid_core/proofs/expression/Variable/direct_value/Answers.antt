use Rattle.std.proofs.Common.{rules, arith, ◌≡◌, Some, None, length, refl, ap, ◌∙◌}
use Rattle.liquid_core.proofs.DirectValues.{empty_of, directly_as}
use Rattle.liquid_model.specs.Data.{number}
use Rattle.liquid_model.specs.View.{view}
use Rattle.liquid_core.specs.Expressions.{value_of}
use Rattle.liquid_core.specs.ExpressionView.{variable_view, steps_view}
use Rattle.liquid_core.specs.AlongSteps.{value_along_steps}
use Rattle.liquid_core.specs.LoopFrames.{frame_object}
use Rattle.liquid_core.specs.States.{environment_of}
use Rattle.liquid_core.proofs.ExpressionViews.{value_from, no_more}
use Rattle.liquid_core.proofs.expression.Variable.direct_value.Goals as goal

pub returns-in-Some : goal.returns-in-Some
returns-in-Some c =
    let w = c.args.self.now in
    let e = environment_of c.args.state.now in
    c.in-Some.ensures e ∙ value_from w e c.as_str.result.now w.indexes.items (Some (view c.in-Held.value.now)) (search rules) refl c.in-Held.ensures

pub returns-in-Number : goal.returns-in-Number
returns-in-Number c =
    let w = c.args.self.now in
    let e = environment_of c.args.state.now in
    let none : length w.indexes.items ≡ 0 = search (rules, arith) in
    let got : Some (number c.in-Number.n) ≡ value_of (variable_view w) e = no_more (number c.in-Number.n) w.indexes.items e (empty_of w.indexes.items none) ∙ value_from w e c.as_str.result.now w.indexes.items _ (search rules) refl c.in-Number.ensures in
    search (rules, got)

pub returns-in-Loop : goal.returns-in-Loop
returns-in-Loop c =
    let w = c.args.self.now in
    let e = environment_of c.args.state.now in
    let there = c.in-Loop.ensures in
    let d = frame_object c.in-Loop.frame.now there.0 in
    let items : c.as_slice.result.now ≡ w.indexes.items = c.as_slice.ensures.value in
    directly_as c.direct_part.result (value_along_steps d (steps_view c.as_slice.result.now) e) (value_of (variable_view w) e) None
    (ap (λ l. value_along_steps d (steps_view l) e) items ∙ value_from w e c.as_str.result.now w.indexes.items (Some d) (search rules) refl there.1)
    (c.direct_part.ensures e there.0)
