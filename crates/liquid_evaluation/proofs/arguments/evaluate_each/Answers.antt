use Rattle.std.proofs.Common.{◌≡◌, [], ◌∷◌, ◌++◌, drop, map, ◌+◌, ◌-◌, Ok, ap, sym, ◌∙◌, subst, rules}
use Rattle.std.proofs.lemmas.List.{map-append}
use Rattle.std.proofs.lemmas.Result.{err_from_is_err_and}
use Rattle.liquid_model.specs.Cow.{cow_view}
use Rattle.liquid_model.specs.View.{view}
use Rattle.liquid_core.specs.ExpressionView.{expression_view}
use Rattle.liquid_model.specs.Fallible.{◌>>=◌}
use Rattle.liquid_core.specs.States.{environment_of}
use Rattle.liquid_evaluation.specs.Calls.{taken_arguments}
use Rattle.liquid_evaluation.proofs.Calls.{arguments_more, arguments_stop, arguments_end}
use Rattle.liquid_evaluation.proofs.arguments.evaluate_each.Goals as goal

pub returns-in_err-argument-clause-values : goal.returns-in_err-argument-clause-values
returns-in_err-argument-clause-values c =
    let p = err_from_is_err_and c.from_residual-in_err-argument.result c.from_residual-in_err-argument.ensures.1 in
    rw (p.1, p.2) (arguments_stop expression_view _ (environment_of c.args.state.now) c.args.expressions.now c.loop-expression.left c.loop-expression.expression-index c.expression-item.result (map view c.loop-expression.values.items) c.in_err-argument.field-0.0.kind
    c.loop-expression-test.true c.expression-item.is c.in_err-argument.ensures c.loop-expression.invariant.values)

pub loop-expression-preserved : goal.loop-expression-preserved
loop-expression-preserved c =
    let before = c.loop-expression.values.items in
    let e = environment_of c.args.state.now in
    let grown : map view c.push.new.self.items ≡ map view before ++ cow_view c.in_ok-argument.field-0 ∷ [] =
    ap (map view) c.in_ok-push.ensures.items ∙ map-append view before (c.in_ok-into_owned.field-0 ∷ []) ∙ ap (λ d. map view before ++ d ∷ []) c.in_ok-into_owned.ensures.value in
    record {
      values = subst (λ l. taken_arguments c.args.required (map expression_view c.args.expressions.now) e
          ≡ (taken_arguments c.saturating_sub-left.result (map expression_view (drop (c.loop-expression.expression-index + 1) c.args.expressions.now)) e >>= (λ ds. Ok (l ++ ds)))) (sym grown)
          (rw c.saturating_sub-left.ensures (arguments_more expression_view _ e c.args.expressions.now c.loop-expression.left c.loop-expression.expression-index c.expression-item.result (map view before) (cow_view c.in_ok-argument.field-0)
          c.loop-expression-test.true c.expression-item.is c.in_ok-argument.ensures c.loop-expression.invariant.values));
      count = search rules;
    }

pub returns-clause-values : goal.returns-clause-values
returns-clause-values c =
    arguments_end expression_view _ (environment_of c.args.state.now) c.args.expressions.now c.loop-expression.left c.loop-expression.expression-index (map view c.loop-expression.values.items)
    c.loop-expression-test.false c.loop-expression.invariant.values
