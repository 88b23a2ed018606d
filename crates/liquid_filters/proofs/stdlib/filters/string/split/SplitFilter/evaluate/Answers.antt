use Rattle.std.proofs.Common.{map}
use Rattle.liquid_model.specs.View.{view}
use Rattle.liquid_filters.proofs.TextStanding.{splits_text}
use Rattle.liquid_filters.proofs.stdlib.filters.string.split.SplitFilter.evaluate.Goals as goal

pub returns-clause-relation : goal.returns-clause-relation
returns-clause-relation c = splits_text c.args.input.now (map view c.args.args.now) c.split_answer.result c.split_answer.ensures
