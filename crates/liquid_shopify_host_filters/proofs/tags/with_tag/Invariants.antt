use Rattle.std.proofs.Common.{◌≡◌, ◌++◌, drop, map, string_bytes}
use Rattle.liquid_shopify_host_filters.specs.Tags.{with_tag}
use Rattle.liquid_shopify_host_filters.proofs.tags.with_tag.Given as goal

abbrev pub invariant-loop-known : goal.invariant-loop-known
invariant-loop-known l =
    with_tag (map string_bytes l.known-items) l.tag
    ≡ string_bytes l.out ++ with_tag (map string_bytes (drop l.known-index l.known-items)) l.tag
