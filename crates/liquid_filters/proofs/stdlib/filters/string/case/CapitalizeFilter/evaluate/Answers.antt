use Rattle.std.proofs.Common.{map}
use Rattle.liquid_model.specs.View.{view}
use Rattle.liquid_filters.proofs.TextStanding.{capitalizes}
use Rattle.liquid_filters.proofs.stdlib.filters.string.case.CapitalizeFilter.evaluate.Goals as goal

pub returns-clause-relation : goal.returns-clause-relation
returns-clause-relation c = capitalizes c.args.input.now (map view c.args.args.now) c.capitalize_answer.result c.capitalize_answer.ensures
