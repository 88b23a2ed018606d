use Rattle.std.proofs.Common.{map}
use Rattle.liquid_model.specs.View.{view}
use Rattle.liquid_filters.proofs.TextStanding.{strips}
use Rattle.liquid_filters.proofs.stdlib.filters.string.strip.StripFilter.evaluate.Goals as goal

pub returns-clause-relation : goal.returns-clause-relation
returns-clause-relation c = strips c.args.input.now (map view c.args.args.now) c.strip_answer.result c.strip_answer.ensures
