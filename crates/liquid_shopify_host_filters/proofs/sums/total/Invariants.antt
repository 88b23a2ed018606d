use Rattle.std.proofs.Common.{◌≡◌, drop, pos, option_map}
use Rattle.liquid_model.specs.Lists.{list_of}
use Rattle.liquid_model.specs.View.{items_view}
use Rattle.liquid_shopify_host_filters.specs.Sums.{total}
use Rattle.liquid_shopify_host_filters.proofs.sums.total.Given as goal

abbrev pub invariant-loop-item : goal.invariant-loop-item
invariant-loop-item l =
    let name = option_map (λ s. s.now) l.name in
    total name (pos 0) (list_of (items_view l.items)) ≡ total name l.sum (list_of (items_view (drop l.item-index l.items)))
