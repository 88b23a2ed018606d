use Rattle.std.proofs.Common.{map}
use Rattle.liquid_model.specs.View.{view}
use Rattle.liquid_filters.proofs.ListStanding.{compacts}
use Rattle.liquid_filters.proofs.stdlib.filters.array.selection.CompactFilter.evaluate.Goals as goal

pub returns-clause-relation : goal.returns-clause-relation
returns-clause-relation c = compacts (view c.args.input.now) (map view c.args.args.now) c.compact_answer.result c.compact_answer.ensures
