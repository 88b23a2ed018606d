use Rattle.std.proofs.Common.{◌≡◌, ◌++◌, map, drop, option_map}
use Rattle.liquid_model.specs.Lists.{list_of}
use Rattle.liquid_model.specs.View.{view, items_view}
use Rattle.liquid_filters.specs.Keeping.{where_of}
use Rattle.liquid_filters.proofs.stdlib.filters.array.selection.where_of.Given as goal

abbrev pub invariant-loop-item : goal.invariant-loop-item
invariant-loop-item l =
    where_of l.name (option_map (λ v. view v.now) l.target) (list_of (items_view l.items)) ≡ map view l.kept.items ++ where_of l.name (option_map (λ v. view v.now) l.target) (list_of (items_view (drop l.item-index l.items)))
