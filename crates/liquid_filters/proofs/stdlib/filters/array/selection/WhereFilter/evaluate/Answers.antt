use Rattle.std.proofs.Common.{map}
use Rattle.liquid_model.specs.View.{view}
use Rattle.liquid_filters.proofs.ListStanding.{wheres}
use Rattle.liquid_filters.proofs.stdlib.filters.array.selection.WhereFilter.evaluate.Goals as goal

pub returns-clause-relation : goal.returns-clause-relation
returns-clause-relation c = wheres (view c.args.input.now) (map view c.args.args.now) c.where_answer.result c.where_answer.ensures
