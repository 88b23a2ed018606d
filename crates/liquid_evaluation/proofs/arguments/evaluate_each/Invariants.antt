use Rattle.std.proofs.Common.{◌≡◌, ◌++◌, length, map, drop, Ok}
use Rattle.liquid_core.specs.ExpressionView.{expression_view}
use Rattle.liquid_model.specs.Fallible.{◌>>=◌}
use Rattle.liquid_core.specs.States.{environment_of}
use Rattle.liquid_model.specs.View.{view}
use Rattle.liquid_evaluation.specs.Calls.{taken_arguments}
use Rattle.liquid_evaluation.proofs.arguments.evaluate_each.Given as goal

abbrev pub invariant-loop-expression : goal.invariant-loop-expression
invariant-loop-expression l = record {
  values : taken_arguments l.required (map expression_view l.expressions) (environment_of l.state)
      ≡ (taken_arguments l.left (map expression_view (drop l.expression-index l.expressions)) (environment_of l.state) >>= (λ ds. Ok (map view l.values.items ++ ds)));
  count : length l.values.items ≡ l.expression-index;
}
