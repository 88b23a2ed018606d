use Rattle.std.proofs.Common.{◌≡◌, ◌++◌, map, drop}
use Rattle.liquid_model.specs.View.{view}
use Rattle.liquid_filters.proofs.stdlib.filters.array.sort.items_of.Given as goal

abbrev pub invariant-loop-entry : goal.invariant-loop-entry
invariant-loop-entry l =
    map (λ k. view k.item.now) l.keyed ≡ map view l.items.items ++ map (λ k. view k.item.now) (drop l.entry-index l.keyed)
