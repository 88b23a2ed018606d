use Rattle.std.proofs.Common.{◌≡◌, ◌+◌, ◌-◌, ◌^◌, ◌≤◌, drop}
use Rattle.liquid_model.specs.ValueSizes.{counted_size, items_size, pairs_size}
use Rattle.liquid_model.specs.View.{items_view, pairs_view}
use Rattle.liquid_model.proofs.size.+value_size.Given as goal

abbrev pub invariant-items_size-loop-item : goal.invariant-items_size-loop-item
invariant-items_size-loop-item l = record {
  sums : counted_size (items_size (items_view l.item-items)) ≡ counted_size (l.size + items_size (items_view (drop l.item-index l.item-items)));
  fits : l.size ≤ 2 ^ 64 - 1;
}

abbrev pub invariant-pairs_size-loop-key : goal.invariant-pairs_size-loop-key
invariant-pairs_size-loop-key l = record {
  sums : counted_size (pairs_size (pairs_view l.initial.key-iterator)) ≡ counted_size (l.size + pairs_size (pairs_view l.key-iterator));
  fits : l.size ≤ 2 ^ 64 - 1;
}
