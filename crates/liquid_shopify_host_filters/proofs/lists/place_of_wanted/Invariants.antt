use Rattle.std.proofs.Common.{◌≡◌, drop, pos, min, option_map}
use Rattle.liquid_model.specs.Lists.{list_of}
use Rattle.liquid_model.specs.View.{view, items_view}
use Rattle.liquid_shopify_host_filters.specs.Lookups.{place_of_wanted}
use Rattle.liquid_shopify_host_filters.proofs.lists.place_of_wanted.Given as goal

abbrev pub invariant-loop-item : goal.invariant-loop-item
invariant-loop-item l = record {
  found : place_of_wanted l.name (option_map (λ v. view v.now) l.target) 0 (list_of (items_view l.items))
      ≡ place_of_wanted l.name (option_map (λ v. view v.now) l.target) l.item-index
      (list_of (items_view (drop l.item-index l.items)));
  place : l.place ≡ pos (min l.item-index 9223372036854775807);
}
