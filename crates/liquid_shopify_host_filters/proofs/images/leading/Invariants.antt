use Rattle.std.proofs.Common.{◌≡◌, ◌++◌, drop, string_bytes}
use Rattle.liquid_shopify_host_filters.specs.Images.{leading}
use Rattle.liquid_shopify_host_filters.proofs.images.leading.Given as goal

abbrev pub invariant-loop-byte : goal.invariant-loop-byte
invariant-loop-byte l =
    leading l.hyphens l.bytes ≡ string_bytes l.out ++ leading l.hyphens (drop l.byte-index l.bytes)
