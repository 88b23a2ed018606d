use Rattle.std.proofs.Common.{◌≡◌, ◌++◌, map, drop, option_map}
use Rattle.liquid_model.specs.Lists.{list_of}
use Rattle.liquid_model.specs.View.{items_view}
use Rattle.liquid_filters.specs.Keyed.{keyed_view}
use Rattle.liquid_filters.specs.Sorting.{key_of}
use Rattle.liquid_filters.proofs.stdlib.filters.array.sort.with_keys.Given as goal

abbrev pub invariant-loop-item : goal.invariant-loop-item
invariant-loop-item l =
    map (λ d. (key_of (option_map (λ s. s.now) l.property) d, d)) (list_of (items_view l.items)) ≡ map keyed_view l.keyed.items ++ map (λ d. (key_of (option_map (λ s. s.now) l.property) d, d)) (list_of (items_view (drop l.item-index l.items)))
