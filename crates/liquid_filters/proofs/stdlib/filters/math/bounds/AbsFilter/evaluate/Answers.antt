use Rattle.std.proofs.Common.{map}
use Rattle.liquid_model.specs.View.{view}
use Rattle.liquid_filters.proofs.NumberStanding.{absolutes}
use Rattle.liquid_filters.proofs.stdlib.filters.math.bounds.AbsFilter.evaluate.Goals as goal

pub returns-clause-relation : goal.returns-clause-relation
returns-clause-relation c = absolutes (view c.args.input.now) (map view c.args.args.now) c.abs_answer.result c.abs_answer.ensures.answer
