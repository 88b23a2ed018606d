use Rattle.std.proofs.Common.{◌≡◌, ◌++◌, true, drop, map, string_bytes}
use Rattle.liquid_shopify_host_filters.specs.Tags.{other_tags}
use Rattle.liquid_shopify_host_filters.proofs.tags.other_tags.Given as goal

abbrev pub invariant-loop-known : goal.invariant-loop-known
invariant-loop-known l =
    other_tags true (map string_bytes l.known-items) l.tag
    ≡ string_bytes l.out ++ other_tags l.is_first (map string_bytes (drop l.known-index l.known-items)) l.tag
