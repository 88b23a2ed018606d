use Rattle.std.proofs.Common.{map}
use Rattle.liquid_model.specs.View.{view}
use Rattle.liquid_filters.proofs.TextStanding.{replaces_one_place}
use Rattle.liquid_filters.proofs.stdlib.filters.string.operate.ReplaceFirstFilter.evaluate.Goals as goal

pub returns-clause-relation : goal.returns-clause-relation
returns-clause-relation c = replaces_one_place (view c.args.input.now) (map view c.args.args.now) c.replace_first_answer.result c.replace_first_answer.ensures
