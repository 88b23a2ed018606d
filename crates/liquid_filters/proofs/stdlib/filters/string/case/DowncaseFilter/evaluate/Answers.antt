use Rattle.std.proofs.Common.{map}
use Rattle.liquid_model.specs.View.{view}
use Rattle.liquid_filters.proofs.TextStanding.{downcases}
use Rattle.liquid_filters.proofs.stdlib.filters.string.case.DowncaseFilter.evaluate.Goals as goal

pub returns-clause-relation : goal.returns-clause-relation
returns-clause-relation c = downcases c.args.input.now (map view c.args.args.now) c.downcase_answer.result c.downcase_answer.ensures
