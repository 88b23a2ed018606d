use Rattle.std.proofs.Common.{◌≡◌, List, ◌++◌, length}
use Rattle.std.specs.Vec.Iter.{into_iter_items, into_iter_len}
use Rattle.liquid_model.specs.View.{items_view, pairs_view}
use Rattle.liquid_model.proofs.Views.{Entry}
use Rattle.liquid_json.proofs.After.{after}
use Rattle.liquid_data.specs.Dates.{dated_items, dated_pairs}
use Rattle.liquid_data.proofs.dates.+dated_value.Given as goal

-- what is left makes, after what is done, the whole
abbrev pub invariant-dated_items-loop-item : goal.invariant-dated_items-loop-item
invariant-dated_items-loop-item l = record {
  counted : into_iter_len l.item-iterator ≡ length (into_iter_items l.item-iterator);
  whole : after l.found.items (dated_items (items_view (into_iter_items l.item-iterator))) ≡ dated_items (items_view l.fn.items.items);
}

abbrev pub invariant-dated-loop-name : goal.invariant-dated-loop-name
invariant-dated-loop-name l =
    (done : List Entry) × (l.fn.data.entries ≡ done ++ l.name-iterator) × (pairs_view l.found.entries ≡ dated_pairs (pairs_view done))
