use Rattle.std.proofs.Common.{map}
use Rattle.liquid_model.specs.View.{view}
use Rattle.liquid_filters.proofs.TextStanding.{truncates_text}
use Rattle.liquid_filters.proofs.stdlib.filters.string.truncate.TruncateFilter.evaluate.Goals as goal

pub returns-clause-relation : goal.returns-clause-relation
returns-clause-relation c = truncates_text (view c.args.input.now) (map view c.args.args.now) c.truncate_answer.result c.truncate_answer.ensures
