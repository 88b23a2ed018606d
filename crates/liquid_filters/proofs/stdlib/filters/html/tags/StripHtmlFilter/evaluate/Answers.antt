use Rattle.std.proofs.Common.{map}
use Rattle.liquid_model.specs.View.{view}
use Rattle.liquid_filters.proofs.WebStanding.{strips_tags}
use Rattle.liquid_filters.proofs.stdlib.filters.html.tags.StripHtmlFilter.evaluate.Goals as goal

pub returns-clause-relation : goal.returns-clause-relation
returns-clause-relation c = strips_tags (view c.args.input.now) (map view c.args.args.now) c.strip_html_answer.result c.strip_html_answer.ensures
