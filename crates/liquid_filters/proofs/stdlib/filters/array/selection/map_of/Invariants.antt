use Rattle.std.proofs.Common.{◌≡◌, ◌++◌, map, drop}
use Rattle.liquid_model.specs.Lists.{list_of}
use Rattle.liquid_model.specs.View.{view, items_view}
use Rattle.liquid_filters.specs.Keeping.{mapped_property}
use Rattle.liquid_filters.proofs.stdlib.filters.array.selection.map_of.Given as goal

abbrev pub invariant-loop-item : goal.invariant-loop-item
invariant-loop-item l =
    mapped_property l.name (list_of (items_view l.items)) ≡ map view l.values.items ++ mapped_property l.name (list_of (items_view (drop l.item-index l.items)))
