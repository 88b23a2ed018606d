use Rattle.std.proofs.Common.{◌≡◌, List, ◌++◌, take, map}
use Rattle.liquid_model.specs.View.{view, pairs_view}
use Rattle.liquid_model.proofs.Views.{Entry}
use Rattle.liquid_model.proofs.value.+copied.Given as goal

abbrev pub invariant-copied_items-loop-item : goal.invariant-copied_items-loop-item
invariant-copied_items-loop-item l = map view l.copies.items ≡ map view (take l.item-index l.item-items)

abbrev pub invariant-copied_pairs-loop-key : goal.invariant-copied_pairs-loop-key
invariant-copied_pairs-loop-key l =
    (done : List Entry) × (l.pairs.entries ≡ done ++ l.key-iterator) × (pairs_view l.copies.entries ≡ pairs_view done)
