use Rattle.std.proofs.Common.{◌≡◌, drop}
use Rattle.liquid_model.specs.Lists.{list_of}
use Rattle.liquid_model.specs.View.{items_view}
use Rattle.liquid_jekyll_host_filters.specs.Links.{first_meant, is_sought}
use Rattle.liquid_jekyll_host_filters.proofs.links.first_meant.Given as goal

abbrev pub invariant-loop-item : goal.invariant-loop-item
invariant-loop-item l = first_meant (is_sought l.sought) (list_of (items_view l.items)) ≡ first_meant (is_sought l.sought) (list_of (items_view (drop l.item-index l.items)))
