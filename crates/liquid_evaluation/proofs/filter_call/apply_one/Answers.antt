use Rattle.std.proofs.Common.{subst, map}
use Rattle.std.proofs.lemmas.Result.{err_from_is_err_and}
use Rattle.liquid_model.specs.FilterAnswers.{AnswersIf}
use Rattle.liquid_core.specs.States.{environment_of}
use Rattle.liquid_model.specs.View.{view}
use Rattle.liquid_evaluation.specs.Calls.{call_of}
use Rattle.liquid_evaluation.specs.inside.Arguments.{arguments_view}
use Rattle.liquid_evaluation.proofs.Calls.{one_call, one_call_faulted}
use Rattle.liquid_evaluation.proofs.filter_call.apply_one.Goals as goal

pub returns-in_err-arguments : goal.returns-in_err-arguments
returns-in_err-arguments g c =
    let p = err_from_is_err_and c.from_residual.result c.from_residual.ensures.1 in
    let call = call_of (g.F.Filter.answer c.args.call.now.filter) c.args.call.now.args.now c.args.call.now.required in
    rw p.1 (one_call_faulted (g.F.Filter.within c.args.call.now.filter) call (environment_of c.args.state.now) (view c.args.input.now) p.0 (rw p.2 c.in_err-arguments.ensures.values))

pub returns : goal.returns
returns g c =
    let answer = g.F.Filter.answer c.args.call.now.filter in
    let within = g.F.Filter.within c.args.call.now.filter in
    one_call within (call_of answer c.args.call.now.args.now c.args.call.now.required) (environment_of c.args.state.now) (view c.args.input.now) (arguments_view c.in_ok-arguments.arguments) c.evaluate-answer.result
    c.in_ok-arguments.ensures.values
    (subst (λ ds. AnswersIf within view c.evaluate-answer.result (answer (view c.args.input.now) ds)) c.as_slice.ensures c.evaluate-answer.ensures)

pub returns-in-Some : goal.returns-in-Some
returns-in-Some g c =
    let answer = g.F.Filter.answer c.args.call.now.filter in
    one_call (g.F.Filter.within c.args.call.now.filter) (call_of answer c.args.call.now.args.now c.args.call.now.required) (environment_of c.args.state.now) (view c.args.input.now) (map view c.in-Some.borrowed.now) c.evaluate.result
    (c.in-Some.ensures.values c.args.call.now.required) c.evaluate.ensures
