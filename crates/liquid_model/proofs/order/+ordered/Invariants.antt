use Rattle.std.proofs.Common.{◌≡◌, drop}
use Rattle.liquid_model.specs.Order.{items_order, pairs_order}
use Rattle.liquid_model.specs.View.{items_view, pairs_view}
use Rattle.liquid_model.proofs.order.+ordered.Given as goal

-- what is left compares as the whole
abbrev pub invariant-ordered_items-loop-x : goal.invariant-ordered_items-loop-x
invariant-ordered_items-loop-x l =
    items_order (items_view (drop l.x-index l.x-items)) (items_view l.others.rest.now) ≡ items_order (items_view l.x-items) (items_view l.initial.others.rest.now)

abbrev pub invariant-ordered_pairs-loop-key : goal.invariant-ordered_pairs-loop-key
invariant-ordered_pairs-loop-key l =
    pairs_order (pairs_view l.key-iterator) (pairs_view l.others) ≡ pairs_order (pairs_view l.initial.key-iterator) (pairs_view l.initial.others)
