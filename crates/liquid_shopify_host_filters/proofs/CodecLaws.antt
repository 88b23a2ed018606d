-- What was encoded is decoded.
use Rattle.std.proofs.Common.{ap, refl, ◌∙◌}
use Rattle.base64.proofs.EngineFacts.{decode_of-encode_of}
use Rattle.base64.specs.Engines.{standard}
use Rattle.liquid_shopify_host_filters.specs.Codecs.{decoded}
use Rattle.liquid_shopify_host_filters.specs.Laws.{DecodeUndoesEncode}
use Rattle.liquid_shopify_host_filters.proofs.Decoded.{is_decoded}

pub undone : DecodeUndoesEncode
undone s u b = ap decoded (decode_of-encode_of standard s refl b) ∙ is_decoded s s u refl
