use Rattle.std.proofs.Common.{true, map}
use Rattle.liquid_model.specs.View.{view}
use Rattle.liquid_filters.specs.NumberLaws.{IsQuotient}
use Rattle.liquid_filters.specs.Numbers.{divided_by}
use Rattle.liquid_filters.proofs.Operations.{divided_by_one}
use Rattle.liquid_filters.proofs.NumberStanding.{operated}
use Rattle.liquid_filters.proofs.stdlib.filters.math.arithmetic.DividedByFilter.evaluate.Goals as goal

pub returns-clause-relation : goal.returns-clause-relation
returns-clause-relation c = operated IsQuotient true divided_by divided_by_one (view c.args.input.now) (map view c.args.args.now) c.divided_by_answer.result c.divided_by_answer.ensures.answer
