use Rattle.liquid_filters.proofs.laws.url.url_laws.Goals as goal
use Rattle.liquid_filters.proofs.UrlLaws.{url_encode_one, url_decode_one, undone}

pub returns-clause-url_encode_is_one : goal.returns-clause-url_encode_is_one
returns-clause-url_encode_is_one c = url_encode_one

pub returns-clause-url_decode_is_one : goal.returns-clause-url_decode_is_one
returns-clause-url_decode_is_one c = url_decode_one

pub returns-clause-url_decode_undoes_encode : goal.returns-clause-url_decode_undoes_encode
returns-clause-url_decode_undoes_encode c = undone
