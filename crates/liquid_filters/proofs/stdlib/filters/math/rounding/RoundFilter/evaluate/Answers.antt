use Rattle.std.proofs.Common.{map}
use Rattle.liquid_model.specs.View.{view}
use Rattle.liquid_filters.proofs.NumberStanding.{rounds}
use Rattle.liquid_filters.proofs.stdlib.filters.math.rounding.RoundFilter.evaluate.Goals as goal

pub returns-clause-relation : goal.returns-clause-relation
returns-clause-relation c = rounds (view c.args.input.now) (map view c.args.args.now) c.round_answer.result c.round_answer.ensures.answer
