use Rattle.std.proofs.Common.{map}
use Rattle.liquid_model.specs.View.{view}
use Rattle.liquid_filters.proofs.WebStanding.{escapes}
use Rattle.liquid_filters.proofs.stdlib.filters.html.escape.EscapeFilter.evaluate.Goals as goal

pub returns-clause-relation : goal.returns-clause-relation
returns-clause-relation c = escapes c.args.input.now (map view c.args.args.now) c.escape_answer.result c.escape_answer.ensures
