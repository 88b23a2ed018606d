use Rattle.std.proofs.Common.{map}
use Rattle.liquid_model.specs.View.{view}
use Rattle.liquid_filters.proofs.TextStanding.{removes_one_place}
use Rattle.liquid_filters.proofs.stdlib.filters.string.operate.RemoveFirstFilter.evaluate.Goals as goal

pub returns-clause-relation : goal.returns-clause-relation
returns-clause-relation c = removes_one_place (view c.args.input.now) (map view c.args.args.now) c.remove_first_answer.result c.remove_first_answer.ensures
