use Rattle.std.proofs.Common.{◌≡◌, ◌++◌, map, drop}
use Rattle.liquid_model.specs.View.{view}
use Rattle.liquid_filters.proofs.stdlib.filters.slice.copied.Given as goal

abbrev pub invariant-loop-item : goal.invariant-loop-item
invariant-loop-item l = map view l.items ≡ map view l.copies.items ++ map view (drop l.item-index l.items)
