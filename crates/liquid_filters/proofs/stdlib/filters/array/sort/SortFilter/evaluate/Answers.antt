use Rattle.std.proofs.Common.{map}
use Rattle.liquid_model.specs.View.{view}
use Rattle.liquid_filters.proofs.ListStanding.{sorts}
use Rattle.liquid_filters.proofs.stdlib.filters.array.sort.SortFilter.evaluate.Goals as goal

pub returns-clause-relation : goal.returns-clause-relation
returns-clause-relation c = sorts (view c.args.input.now) (map view c.args.args.now) c.sort_answer.result c.sort_answer.ensures
