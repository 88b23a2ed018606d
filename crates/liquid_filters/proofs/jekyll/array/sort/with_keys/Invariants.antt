use Rattle.std.proofs.Common.{◌≡◌, ◌++◌, map, drop}
use Rattle.liquid_model.specs.Lists.{list_of}
use Rattle.liquid_model.specs.View.{view, items_view}
use Rattle.liquid_filters.specs.Keyed.{keyed_view}
use Rattle.liquid_filters.specs.JekyllSorting.{found_key}
use Rattle.liquid_filters.proofs.jekyll.array.sort.with_keys.Given as goal

abbrev pub invariant-loop-item : goal.invariant-loop-item
invariant-loop-item l =
    map (λ d. (found_key l.nils (map view l.path) d, d)) (list_of (items_view l.items)) ≡ map keyed_view l.keyed.items ++ map (λ d. (found_key l.nils (map view l.path) d, d)) (list_of (items_view (drop l.item-index l.items)))
