use Rattle.std.proofs.Common.{map}
use Rattle.liquid_model.specs.View.{view}
use Rattle.liquid_filters.proofs.ListStanding.{maps}
use Rattle.liquid_filters.proofs.stdlib.filters.array.selection.MapFilter.evaluate.Goals as goal

pub returns-clause-relation : goal.returns-clause-relation
returns-clause-relation c = maps (view c.args.input.now) (map view c.args.args.now) c.map_answer.result c.map_answer.ensures
