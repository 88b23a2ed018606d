use Rattle.std.proofs.Common.{◌≡◌, ◌++◌, map, drop}
use Rattle.std.specs.BTreeSet.{contains_by}
use Rattle.liquid_model.specs.Lists.{list_of}
use Rattle.liquid_model.specs.Order.{order}
use Rattle.liquid_model.specs.View.{view, items_view}
use Rattle.liquid_model.specs.declared.value.Value.{Value}
use Rattle.liquid_filters.specs.Keeping.{has_same, uniq, uniq_after}
use Rattle.liquid_filters.proofs.stdlib.filters.array.selection.unique.Given as goal

-- the answer is the kept items and what the rest adds; a value is in the set exactly where a kept item equals it
abbrev pub invariant-loop-item : goal.invariant-loop-item
invariant-loop-item l = record {
  kept : uniq (list_of (items_view l.items)) ≡ map view l.kept.items ++ uniq_after (map view l.kept.items) (list_of (items_view (drop l.item-index l.items)));
  held : (v : Value) → contains_by (λ k. order (view v) (view k.now)) l.seen ≡ has_same (view v) (map view l.kept.items);
}
