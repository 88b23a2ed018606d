use Rattle.std.proofs.Common.{map}
use Rattle.liquid_model.specs.View.{view}
use Rattle.liquid_filters.proofs.TextStanding.{strips_at_end}
use Rattle.liquid_filters.proofs.stdlib.filters.string.strip.RstripFilter.evaluate.Goals as goal

pub returns-clause-relation : goal.returns-clause-relation
returns-clause-relation c = strips_at_end c.args.input.now (map view c.args.args.now) c.rstrip_answer.result c.rstrip_answer.ensures
