use Rattle.std.proofs.Common.{false, map}
use Rattle.liquid_model.specs.View.{view}
use Rattle.liquid_filters.specs.NumberLaws.{IsGreater}
use Rattle.liquid_filters.specs.Numbers.{at_least}
use Rattle.liquid_filters.proofs.Operations.{at_least_one}
use Rattle.liquid_filters.proofs.NumberStanding.{operated}
use Rattle.liquid_filters.proofs.stdlib.filters.math.bounds.AtLeastFilter.evaluate.Goals as goal

pub returns-clause-relation : goal.returns-clause-relation
returns-clause-relation c = operated IsGreater false at_least at_least_one (view c.args.input.now) (map view c.args.args.now) c.at_least_answer.result c.at_least_answer.ensures.answer
