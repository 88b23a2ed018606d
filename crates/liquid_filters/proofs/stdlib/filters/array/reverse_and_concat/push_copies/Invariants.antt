use Rattle.std.proofs.Common.{◌≡◌, ◌++◌, map, drop}
use Rattle.liquid_model.specs.Lists.{list_of}
use Rattle.liquid_model.specs.View.{view, items_view}
use Rattle.liquid_filters.proofs.stdlib.filters.array.reverse_and_concat.push_copies.Given as goal

abbrev pub invariant-loop-item : goal.invariant-loop-item
invariant-loop-item l =
    map view l.initial.copies.items ++ (list_of (items_view l.items)) ≡ map view l.copies.items ++ (list_of (items_view (drop l.item-index l.items)))
