use Rattle.std.proofs.Common.{false, map}
use Rattle.liquid_model.specs.View.{view}
use Rattle.liquid_filters.specs.NumberLaws.{IsDifference}
use Rattle.liquid_filters.specs.Numbers.{minus}
use Rattle.liquid_filters.proofs.Operations.{minus_one}
use Rattle.liquid_filters.proofs.NumberStanding.{operated}
use Rattle.liquid_filters.proofs.stdlib.filters.math.arithmetic.MinusFilter.evaluate.Goals as goal

pub returns-clause-relation : goal.returns-clause-relation
returns-clause-relation c = operated IsDifference false minus minus_one (view c.args.input.now) (map view c.args.args.now) c.minus_answer.result c.minus_answer.ensures.answer
