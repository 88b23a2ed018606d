use Rattle.std.proofs.Common.{◌≡◌, drop, option_map}
use Rattle.liquid_model.specs.Lists.{list_of}
use Rattle.liquid_model.specs.View.{view, items_view}
use Rattle.liquid_shopify_host_filters.specs.Lookups.{first_match}
use Rattle.liquid_shopify_host_filters.proofs.lists.first_wanted.Given as goal

abbrev pub invariant-loop-item : goal.invariant-loop-item
invariant-loop-item l =
    let target = option_map (λ v. view v.now) l.target in
    first_match l.name target (list_of (items_view l.items))
    ≡ first_match l.name target (list_of (items_view (drop l.item-index l.items)))
