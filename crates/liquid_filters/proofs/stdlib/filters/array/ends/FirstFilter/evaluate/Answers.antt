use Rattle.std.proofs.Common.{map}
use Rattle.liquid_model.specs.View.{view}
use Rattle.liquid_filters.proofs.ListStanding.{firsts}
use Rattle.liquid_filters.proofs.stdlib.filters.array.ends.FirstFilter.evaluate.Goals as goal

pub returns-clause-relation : goal.returns-clause-relation
returns-clause-relation c = firsts (view c.args.input.now) (map view c.args.args.now) c.first_answer.result c.first_answer.ensures
