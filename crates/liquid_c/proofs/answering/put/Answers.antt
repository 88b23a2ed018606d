use Rattle.std.proofs.Common.{rules}
use Rattle.liquid_model.specs.View.{view}
use Rattle.liquid_c.proofs.Answered.{answering}
use Rattle.liquid_c.proofs.answering.put.Goals as goal

pub returns-in-Own-Answers : goal.returns-in-Own-Answers
returns-in-Own-Answers c wanted given =
    answering _ _ c.args.answer wanted _ _ c.in-Own-Answers.table (view c.in-Ok.call.now) c.in-Ok-answer.answer (search rules) (search rules) c.in-Ok-answer.is given c.put_answer.ensures
