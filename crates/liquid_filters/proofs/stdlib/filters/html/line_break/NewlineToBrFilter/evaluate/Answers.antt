use Rattle.std.proofs.Common.{map}
use Rattle.liquid_model.specs.View.{view}
use Rattle.liquid_filters.proofs.WebStanding.{breaks_lines}
use Rattle.liquid_filters.proofs.stdlib.filters.html.line_break.NewlineToBrFilter.evaluate.Goals as goal

pub returns-clause-relation : goal.returns-clause-relation
returns-clause-relation c = breaks_lines c.args.input.now (map view c.args.args.now) c.newline_to_br_answer.result c.newline_to_br_answer.ensures
