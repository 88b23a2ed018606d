use Rattle.std.proofs.Common.{◌≡◌, ◌++◌, map, drop, option_map}
use Rattle.liquid_model.specs.Lists.{list_of}
use Rattle.liquid_model.specs.View.{view, items_view}
use Rattle.liquid_jekyll_host_filters.specs.Searches.{search_matches}
use Rattle.liquid_jekyll_host_filters.proofs.searches.matching_items.Given as goal

abbrev pub invariant-loop-item : goal.invariant-loop-item
invariant-loop-item l =
    search_matches l.name (option_map (λ t. t.now) l.target) (list_of (items_view l.items)) ≡ map view l.kept.items ++ search_matches l.name (option_map (λ t. t.now) l.target) (list_of (items_view (drop l.item-index l.items)))
