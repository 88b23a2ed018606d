use Rattle.std.proofs.Common.{arith, Ok, map, ap, sym, ◌∙◌}
use Rattle.liquid_model.specs.View.{view}
use Rattle.liquid_core.specs.ExpressionView.{expression_view}
use Rattle.liquid_core.specs.States.{environment_of}
use Rattle.liquid_evaluation.proofs.Calls.{argument_there, no_argument, one_argument}
use Rattle.liquid_evaluation.proofs.arguments.borrowed_arguments.Goals as goal

pub returns-in-empty-clause-values : goal.returns-in-empty-clause-values
returns-in-empty-clause-values c n = no_argument expression_view (environment_of c.args.state.now) c.args.expressions.now n (omega arith)

pub returns-in-Held-clause-values : goal.returns-in-Held-clause-values
returns-in-Held-clause-values c n =
    one_argument expression_view (environment_of c.args.state.now) c.args.expressions.now n c.expression-item.result (view c.in-Held.value.now)
    (omega arith) (omega arith) c.expression-item.is (argument_there n (expression_view c.expression-item.result) (environment_of c.args.state.now) (view c.in-Held.value.now) (sym c.in-Held.ensures))
    ∙ ap (λ values. Ok (map view values)) (sym c.from_ref.ensures.value)
