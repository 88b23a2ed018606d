use Rattle.liquid_filters.proofs.AnswerKinds.{kinds_of_answers}
use Rattle.liquid_filters.proofs.laws.answer_law.Goals as goal

pub returns : goal.returns
returns c = kinds_of_answers
