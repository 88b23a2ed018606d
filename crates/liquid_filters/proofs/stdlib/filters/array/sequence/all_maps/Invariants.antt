use Rattle.std.proofs.Common.{◌≡◌, drop}
use Rattle.liquid_model.specs.Lists.{list_of}
use Rattle.liquid_model.specs.View.{items_view}
use Rattle.liquid_filters.specs.Sequences.{all_maps}
use Rattle.liquid_filters.proofs.stdlib.filters.array.sequence.all_maps.Given as goal

abbrev pub invariant-loop-item : goal.invariant-loop-item
invariant-loop-item l =
    all_maps (list_of (items_view l.items)) ≡ all_maps (list_of (items_view (drop l.item-index l.items)))
