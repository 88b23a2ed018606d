use Rattle.std.proofs.Common.{map}
use Rattle.liquid_model.specs.View.{view}
use Rattle.liquid_filters.proofs.WebStanding.{encodes_url}
use Rattle.liquid_filters.proofs.stdlib.filters.url.UrlEncodeFilter.evaluate.Goals as goal

pub returns-clause-relation : goal.returns-clause-relation
returns-clause-relation c = encodes_url (view c.args.input.now) (map view c.args.args.now) c.url_encode_answer.result c.url_encode_answer.ensures
