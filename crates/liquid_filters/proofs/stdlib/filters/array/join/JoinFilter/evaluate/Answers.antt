use Rattle.std.proofs.Common.{map}
use Rattle.liquid_model.specs.View.{view}
use Rattle.liquid_filters.proofs.ListStanding.{joins}
use Rattle.liquid_filters.proofs.stdlib.filters.array.join.JoinFilter.evaluate.Goals as goal

pub returns-clause-relation : goal.returns-clause-relation
returns-clause-relation c = joins (view c.args.input.now) (map view c.args.args.now) c.join_answer.result c.join_answer.ensures
