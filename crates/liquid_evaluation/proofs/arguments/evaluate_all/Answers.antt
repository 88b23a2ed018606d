use Rattle.std.proofs.Common.{arith}
use Rattle.std.proofs.lemmas.Result.{err_from_is_err_and}
use Rattle.liquid_model.specs.Cow.{cow_view}
use Rattle.liquid_core.specs.ExpressionView.{expression_view}
use Rattle.liquid_core.specs.States.{environment_of}
use Rattle.liquid_evaluation.proofs.Calls.{one_argument, one_argument_faulted}
use Rattle.liquid_evaluation.proofs.arguments.evaluate_all.Goals as goal

pub returns-in_err-argument-in-len1-clause-values : goal.returns-in_err-argument-in-len1-clause-values
returns-in_err-argument-in-len1-clause-values c =
    let p = err_from_is_err_and c.from_residual.result c.from_residual.ensures.1 in
    rw (p.1, p.2) (one_argument_faulted expression_view (environment_of c.args.state.now) c.args.expressions.now c.args.required c.expression-item.result c.in_err-argument-in-len1.field-0.0.kind
    (omega arith) c.expression-item.is c.in_err-argument-in-len1.ensures)

pub returns-in_ok-argument-in-len1-clause-values : goal.returns-in_ok-argument-in-len1-clause-values
returns-in_ok-argument-in-len1-clause-values c =
    one_argument expression_view (environment_of c.args.state.now) c.args.expressions.now c.args.required c.expression-item.result (cow_view c.in_ok-argument-in-len1.field-0)
    (omega arith) (omega arith) c.expression-item.is c.in_ok-argument-in-len1.ensures
