use Rattle.std.proofs.Common.{map}
use Rattle.liquid_model.specs.View.{view}
use Rattle.liquid_filters.proofs.ListStanding.{reverses}
use Rattle.liquid_filters.proofs.stdlib.filters.array.reverse_and_concat.ReverseFilter.evaluate.Goals as goal

pub returns-clause-relation : goal.returns-clause-relation
returns-clause-relation c = reverses (view c.args.input.now) (map view c.args.args.now) c.reverse_answer.result c.reverse_answer.ensures
