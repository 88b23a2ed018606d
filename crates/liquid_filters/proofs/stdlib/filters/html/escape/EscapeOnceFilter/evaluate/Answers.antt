use Rattle.std.proofs.Common.{map}
use Rattle.liquid_model.specs.View.{view}
use Rattle.liquid_filters.proofs.WebStanding.{escapes_once}
use Rattle.liquid_filters.proofs.stdlib.filters.html.escape.EscapeOnceFilter.evaluate.Goals as goal

pub returns-clause-relation : goal.returns-clause-relation
returns-clause-relation c = escapes_once c.args.input.now (map view c.args.args.now) c.escape_once_answer.result c.escape_once_answer.ensures
