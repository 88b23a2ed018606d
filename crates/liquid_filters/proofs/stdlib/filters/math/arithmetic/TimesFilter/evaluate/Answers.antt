use Rattle.std.proofs.Common.{false, map}
use Rattle.liquid_model.specs.View.{view}
use Rattle.liquid_filters.specs.NumberLaws.{IsProduct}
use Rattle.liquid_filters.specs.Numbers.{times}
use Rattle.liquid_filters.proofs.Operations.{times_one}
use Rattle.liquid_filters.proofs.NumberStanding.{operated}
use Rattle.liquid_filters.proofs.stdlib.filters.math.arithmetic.TimesFilter.evaluate.Goals as goal

pub returns-clause-relation : goal.returns-clause-relation
returns-clause-relation c = operated IsProduct false times times_one (view c.args.input.now) (map view c.args.args.now) c.times_answer.result c.times_answer.ensures.answer
