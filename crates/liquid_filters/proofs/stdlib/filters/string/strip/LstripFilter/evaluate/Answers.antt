use Rattle.std.proofs.Common.{map}
use Rattle.liquid_model.specs.View.{view}
use Rattle.liquid_filters.proofs.TextStanding.{strips_at_start}
use Rattle.liquid_filters.proofs.stdlib.filters.string.strip.LstripFilter.evaluate.Goals as goal

pub returns-clause-relation : goal.returns-clause-relation
returns-clause-relation c = strips_at_start c.args.input.now (map view c.args.args.now) c.lstrip_answer.result c.lstrip_answer.ensures
