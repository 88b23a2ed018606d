use Rattle.std.proofs.Common.{◌≡◌, drop, string_bytes}
use Rattle.liquid_model.specs.Lists.{list_of}
use Rattle.liquid_model.specs.View.{items_view}
use Rattle.liquid_shopify_host_filters.specs.Pagination.{with_page_parts}
use Rattle.liquid_shopify_host_filters.proofs.pagination.push_parts.Given as goal

-- what is left makes the whole
abbrev pub invariant-loop-part : goal.invariant-loop-part
invariant-loop-part l =
    with_page_parts l.current (string_bytes l.out) (list_of (items_view (drop l.part-index l.parts)))
    ≡ with_page_parts l.current (string_bytes l.initial.out) (list_of (items_view l.parts))
