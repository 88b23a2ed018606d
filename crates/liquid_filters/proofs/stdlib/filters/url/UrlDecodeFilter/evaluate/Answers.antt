use Rattle.std.proofs.Common.{map}
use Rattle.liquid_model.specs.View.{view}
use Rattle.liquid_filters.proofs.WebStanding.{decodes_url}
use Rattle.liquid_filters.proofs.stdlib.filters.url.UrlDecodeFilter.evaluate.Goals as goal

pub returns-clause-relation : goal.returns-clause-relation
returns-clause-relation c = decodes_url (view c.args.input.now) (map view c.args.args.now) c.url_decode_answer.result c.url_decode_answer.ensures
