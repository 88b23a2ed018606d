use Rattle.liquid_core.proofs.Among.{each_held}
use Rattle.liquid_core.proofs.expression.Variable.try_evaluate.Goals as goal

pub returns-clause-no_memory : goal.returns-clause-no_memory
returns-clause-no_memory c = λ none. c.valued.ensures.no_memory (each_held c.args.state.now c.variable_value.result _ c.variable_value.ensures.value c.variable_value.ensures.among none)
