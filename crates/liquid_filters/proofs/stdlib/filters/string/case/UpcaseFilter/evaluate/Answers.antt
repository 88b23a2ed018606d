use Rattle.std.proofs.Common.{map}
use Rattle.liquid_model.specs.View.{view}
use Rattle.liquid_filters.proofs.TextStanding.{upcases}
use Rattle.liquid_filters.proofs.stdlib.filters.string.case.UpcaseFilter.evaluate.Goals as goal

pub returns-clause-relation : goal.returns-clause-relation
returns-clause-relation c = upcases c.args.input.now (map view c.args.args.now) c.upcase_answer.result c.upcase_answer.ensures
