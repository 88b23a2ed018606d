use Rattle.std.proofs.Common.{map}
use Rattle.liquid_model.specs.View.{view}
use Rattle.liquid_filters.proofs.TextStanding.{slices_input}
use Rattle.liquid_filters.proofs.stdlib.filters.slice.SliceFilter.evaluate.Goals as goal

pub returns-clause-relation : goal.returns-clause-relation
returns-clause-relation c = slices_input (view c.args.input.now) (map view c.args.args.now) c.slice_answer.result c.slice_answer.ensures
