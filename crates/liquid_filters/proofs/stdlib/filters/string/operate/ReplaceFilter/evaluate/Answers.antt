use Rattle.std.proofs.Common.{map}
use Rattle.liquid_model.specs.View.{view}
use Rattle.liquid_filters.proofs.TextStanding.{replaces_all}
use Rattle.liquid_filters.proofs.stdlib.filters.string.operate.ReplaceFilter.evaluate.Goals as goal

pub returns-clause-relation : goal.returns-clause-relation
returns-clause-relation c = replaces_all c.args.input.now (map view c.args.args.now) c.replace_answer.result c.replace_answer.ensures
