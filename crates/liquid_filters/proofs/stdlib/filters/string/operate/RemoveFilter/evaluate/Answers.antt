use Rattle.std.proofs.Common.{map}
use Rattle.liquid_model.specs.View.{view}
use Rattle.liquid_filters.proofs.TextStanding.{removes_all}
use Rattle.liquid_filters.proofs.stdlib.filters.string.operate.RemoveFilter.evaluate.Goals as goal

pub returns-clause-relation : goal.returns-clause-relation
returns-clause-relation c = removes_all c.args.input.now (map view c.args.args.now) c.remove_answer.result c.remove_answer.ensures
