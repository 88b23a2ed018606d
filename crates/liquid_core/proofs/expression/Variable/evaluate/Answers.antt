use Rattle.std.proofs.lemmas.Bool.{false≢true}
use Rattle.liquid_core.proofs.Among.{each_held}
use Rattle.liquid_core.proofs.expression.Variable.evaluate.Goals as goal

pub returns-in_err-value-clause-no_memory : goal.returns-in_err-value-clause-no_memory
returns-in_err-value-clause-no_memory c = λ none there. absurd (false≢true (c.in_err-value.ensures.no_memory (each_held c.args.state.now c.variable_value.result _ c.variable_value.ensures.value c.variable_value.ensures.among none)))
