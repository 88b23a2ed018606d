use Rattle.std.proofs.Common.{map}
use Rattle.liquid_model.specs.View.{view}
use Rattle.liquid_filters.proofs.ListStanding.{concats}
use Rattle.liquid_filters.proofs.stdlib.filters.array.reverse_and_concat.ConcatFilter.evaluate.Goals as goal

pub returns-clause-relation : goal.returns-clause-relation
returns-clause-relation c = concats (view c.args.input.now) (map view c.args.args.now) c.concat_answer.result c.concat_answer.ensures
