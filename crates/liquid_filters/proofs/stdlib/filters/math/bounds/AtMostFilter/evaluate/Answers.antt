use Rattle.std.proofs.Common.{false, map}
use Rattle.liquid_model.specs.View.{view}
use Rattle.liquid_filters.specs.NumberLaws.{IsLesser}
use Rattle.liquid_filters.specs.Numbers.{at_most}
use Rattle.liquid_filters.proofs.Operations.{at_most_one}
use Rattle.liquid_filters.proofs.NumberStanding.{operated}
use Rattle.liquid_filters.proofs.stdlib.filters.math.bounds.AtMostFilter.evaluate.Goals as goal

pub returns-clause-relation : goal.returns-clause-relation
returns-clause-relation c = operated IsLesser false at_most at_most_one (view c.args.input.now) (map view c.args.args.now) c.at_most_answer.result c.at_most_answer.ensures.answer
