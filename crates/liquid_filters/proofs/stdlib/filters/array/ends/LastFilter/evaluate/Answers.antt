use Rattle.std.proofs.Common.{map}
use Rattle.liquid_model.specs.View.{view}
use Rattle.liquid_filters.proofs.ListStanding.{lasts}
use Rattle.liquid_filters.proofs.stdlib.filters.array.ends.LastFilter.evaluate.Goals as goal

pub returns-clause-relation : goal.returns-clause-relation
returns-clause-relation c = lasts (view c.args.input.now) (map view c.args.args.now) c.last_answer.result c.last_answer.ensures
