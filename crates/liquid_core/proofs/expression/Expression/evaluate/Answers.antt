use Rattle.std.proofs.lemmas.Bool.{false≢true}
use Rattle.liquid_core.proofs.Among.{each_held}
use Rattle.liquid_core.proofs.expression.Expression.evaluate.Goals as goal

pub returns-in_err-value-clause-no_memory : goal.returns-in_err-value-clause-no_memory
returns-in_err-value-clause-no_memory c = λ none there. absurd (false≢true (c.in_err-value.ensures.no_memory (each_held c.args.state.now c.expression_value.result _ c.expression_value.ensures.value c.expression_value.ensures.among none)))
