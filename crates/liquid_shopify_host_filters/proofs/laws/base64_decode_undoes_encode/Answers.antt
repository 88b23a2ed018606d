use Rattle.liquid_shopify_host_filters.proofs.CodecLaws.{undone}
use Rattle.liquid_shopify_host_filters.proofs.laws.base64_decode_undoes_encode.Goals as goal

pub returns : goal.returns
returns c = undone
