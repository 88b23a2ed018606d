use Rattle.std.proofs.Common.{◌≡◌, drop}
use Rattle.liquid_model.specs.Compare.{items_compare, pairs_compare}
use Rattle.liquid_model.specs.View.{items_view, pairs_view}
use Rattle.liquid_model.proofs.compare.+compared.Given as goal

-- what is left compares as the whole
abbrev pub invariant-compared_items-loop-x : goal.invariant-compared_items-loop-x
invariant-compared_items-loop-x l =
    items_compare (items_view (drop l.x-index l.x-items)) (items_view l.others.rest.now) ≡ items_compare (items_view l.x-items) (items_view l.initial.others.rest.now)

abbrev pub invariant-compared_pairs-loop-key : goal.invariant-compared_pairs-loop-key
invariant-compared_pairs-loop-key l =
    pairs_compare (pairs_view l.key-iterator) (pairs_view l.others) ≡ pairs_compare (pairs_view l.initial.key-iterator) (pairs_view l.initial.others)
