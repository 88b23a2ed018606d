use Rattle.std.proofs.Common.{map}
use Rattle.liquid_model.specs.View.{view}
use Rattle.liquid_filters.proofs.TextStanding.{strips_lines}
use Rattle.liquid_filters.proofs.stdlib.filters.string.strip.StripNewlinesFilter.evaluate.Goals as goal

pub returns-clause-relation : goal.returns-clause-relation
returns-clause-relation c = strips_lines c.args.input.now (map view c.args.args.now) c.strip_newlines_answer.result c.strip_newlines_answer.ensures
