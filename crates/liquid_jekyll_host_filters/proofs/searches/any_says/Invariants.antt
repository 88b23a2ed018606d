use Rattle.std.proofs.Common.{◌≡◌, drop}
use Rattle.liquid_model.specs.Lists.{list_of}
use Rattle.liquid_model.specs.View.{items_view}
use Rattle.liquid_jekyll_host_filters.specs.Searches.{any_says}
use Rattle.liquid_jekyll_host_filters.proofs.searches.any_says.Given as goal

abbrev pub invariant-loop-item : goal.invariant-loop-item
invariant-loop-item l = any_says l.text (list_of (items_view l.items)) ≡ any_says l.text (list_of (items_view (drop l.item-index l.items)))
