use Rattle.std.proofs.Common.{◌≡◌, drop, option_map}
use Rattle.liquid_model.specs.Lists.{list_of}
use Rattle.liquid_model.specs.View.{view, items_view}
use Rattle.liquid_shopify_host_filters.specs.Lookups.{has_wanted}
use Rattle.liquid_shopify_host_filters.proofs.lists.has_wanted.Given as goal

abbrev pub invariant-loop-item : goal.invariant-loop-item
invariant-loop-item l =
    let target = option_map (λ v. view v.now) l.target in
    has_wanted l.name target (list_of (items_view l.items))
    ≡ has_wanted l.name target (list_of (items_view (drop l.item-index l.items)))
