use Rattle.std.proofs.Common.{false, map}
use Rattle.liquid_model.specs.View.{view}
use Rattle.liquid_filters.specs.NumberLaws.{IsSum}
use Rattle.liquid_filters.specs.Numbers.{plus}
use Rattle.liquid_filters.proofs.Operations.{plus_one}
use Rattle.liquid_filters.proofs.NumberStanding.{operated}
use Rattle.liquid_filters.proofs.stdlib.filters.math.arithmetic.PlusFilter.evaluate.Goals as goal

pub returns-clause-relation : goal.returns-clause-relation
returns-clause-relation c = operated IsSum false plus plus_one (view c.args.input.now) (map view c.args.args.now) c.plus_answer.result c.plus_answer.ensures.answer
