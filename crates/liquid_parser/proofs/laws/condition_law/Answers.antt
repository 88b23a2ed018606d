use Rattle.liquid_parser.proofs.ConditionLaws.{condition_takes, condition_again}
use Rattle.liquid_parser.proofs.laws.condition_law.Goals as goal

pub returns : goal.returns
returns c = λ cs ts. (condition_takes ts cs, condition_again)
