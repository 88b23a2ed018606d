use Rattle.std.proofs.Common.{◌≡◌, drop, option_map}
use Rattle.liquid_model.specs.Lists.{list_of}
use Rattle.liquid_model.specs.View.{items_view}
use Rattle.liquid_jekyll_host_filters.specs.Searches.{first_wanted}
use Rattle.liquid_jekyll_host_filters.proofs.searches.first_wanted.Given as goal

abbrev pub invariant-loop-item : goal.invariant-loop-item
invariant-loop-item l =
    first_wanted l.name (option_map (λ t. t.now) l.target) (list_of (items_view l.items)) ≡ first_wanted l.name (option_map (λ t. t.now) l.target) (list_of (items_view (drop l.item-index l.items)))
