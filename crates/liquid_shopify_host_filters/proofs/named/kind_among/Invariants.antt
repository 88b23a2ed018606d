use Rattle.std.proofs.Common.{◌≡◌, drop}
use Rattle.liquid_shopify_host_filters.specs.Named.{shopify_kind_among}
use Rattle.liquid_shopify_host_filters.proofs.named.kind_among.Given as goal

abbrev pub invariant-loop-kind : goal.invariant-loop-kind
invariant-loop-kind l = shopify_kind_among l.name l.kinds ≡ shopify_kind_among l.name (drop l.kind-index l.kinds)
