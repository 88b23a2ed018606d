use Rattle.std.proofs.Common.{map}
use Rattle.liquid_model.specs.View.{view}
use Rattle.liquid_filters.proofs.TextStanding.{truncates_by_words}
use Rattle.liquid_filters.proofs.stdlib.filters.string.truncate.TruncateWordsFilter.evaluate.Goals as goal

pub returns-clause-relation : goal.returns-clause-relation
returns-clause-relation c = truncates_by_words (view c.args.input.now) (map view c.args.args.now) c.truncatewords_answer.result c.truncatewords_answer.ensures
