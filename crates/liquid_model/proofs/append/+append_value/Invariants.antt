use Rattle.std.proofs.Common.{string_bytes, drop}
use Rattle.liquid_model.specs.Data.{items_text, pairs_text}
use Rattle.liquid_model.specs.View.{items_view, pairs_view}
use Rattle.liquid_model.proofs.Appending.{Going}
use Rattle.liquid_model.proofs.append.+append_value.Given as goal

-- a part of the text stands after what was there, and the items or pairs that are left have the rest of it
abbrev pub invariant-append_items-loop-item : goal.invariant-append_items-loop-item
invariant-append_items-loop-item l =
    Going (string_bytes l.initial.out) (string_bytes l.out) (items_text (items_view l.item-items)) (items_text (items_view (drop l.item-index l.item-items)))

abbrev pub invariant-append_pairs-loop-key : goal.invariant-append_pairs-loop-key
invariant-append_pairs-loop-key l =
    Going (string_bytes l.initial.out) (string_bytes l.out) (pairs_text (pairs_view l.initial.key-iterator)) (pairs_text (pairs_view l.key-iterator))
