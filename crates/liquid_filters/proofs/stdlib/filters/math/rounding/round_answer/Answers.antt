use Rattle.liquid_model.specs.Answer.{Answers, TakesNoMemory}
use Rattle.liquid_model.specs.View.{view}
use Rattle.liquid_model.specs.Arguments.{Answer}
use Rattle.liquid_filters.proofs.Operands.{places_given, no_places}
use Rattle.liquid_filters.proofs.stdlib.filters.math.rounding.round_answer.Goals as goal

pub returns-in-Some-clause-answer : goal.returns-in-Some-clause-answer
returns-in-Some-clause-answer c = places_given (λ (a : Answer). Answers view c.rounded_by.result a) (view c.args.input.now) c.args.args.now c.in-Some.places.now c.in-Some.ensures.value c.rounded_by.ensures.answer

pub returns-in-Some-clause-no_memory : goal.returns-in-Some-clause-no_memory
returns-in-Some-clause-no_memory c = places_given (λ (a : Answer). TakesNoMemory c.rounded_by.result a) (view c.args.input.now) c.args.args.now c.in-Some.places.now c.in-Some.ensures.value c.rounded_by.ensures.no_memory

pub returns-in-None-clause-answer : goal.returns-in-None-clause-answer
returns-in-None-clause-answer c = no_places (λ (a : Answer). Answers view c.rounded.result a) (view c.args.input.now) c.args.args.now c.in-None.ensures.value c.rounded.ensures.answer

pub returns-in-None-clause-no_memory : goal.returns-in-None-clause-no_memory
returns-in-None-clause-no_memory c = no_places (λ (a : Answer). TakesNoMemory c.rounded.result a) (view c.args.input.now) c.args.args.now c.in-None.ensures.value c.rounded.ensures.no_memory
