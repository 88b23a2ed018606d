use Rattle.liquid_model.specs.Answer.{Answers, TakesNoMemory}
use Rattle.liquid_model.specs.View.{view}
use Rattle.liquid_model.specs.Arguments.{Answer}
use Rattle.liquid_filters.specs.Numbers.{at_most}
use Rattle.liquid_filters.proofs.Operands.{of_given, one_in}
use Rattle.liquid_filters.proofs.stdlib.filters.math.bounds.at_most_answer.Goals as goal

pub bounds-args-0 : goal.bounds-args-0
bounds-args-0 c = one_in c.args.args.now c.requires

pub returns-clause-answer : goal.returns-clause-answer
returns-clause-answer c = of_given (λ (a : Answer). Answers view c.lesser.result a) at_most (view c.args.input.now) c.args.args.now c.index-args-0.result c.requires c.index-args-0.is c.lesser.ensures.answer

pub returns-clause-no_memory : goal.returns-clause-no_memory
returns-clause-no_memory c = of_given (λ (a : Answer). TakesNoMemory c.lesser.result a) at_most (view c.args.input.now) c.args.args.now c.index-args-0.result c.requires c.index-args-0.is c.lesser.ensures.no_memory
