use Rattle.std.proofs.Common.{◌≡◌, length}
use Rattle.std.specs.Vec.Iter.{into_iter_items, into_iter_len}
use Rattle.liquid_model.specs.View.{pairs_view}
use Rattle.liquid_data.specs.TomlData.{toml_list_items, pairs_from, toml_pairs}
use Rattle.liquid_data.proofs.After.{after}
use Rattle.toml.specs.View.{items_view as toml_items, members_view as toml_members}
use Rattle.liquid_data.proofs.toml_data.+value_of.Given as goal

-- what is left makes, after what is done, the whole
abbrev pub invariant-items_of-loop-item : goal.invariant-items_of-loop-item
invariant-items_of-loop-item l = record {
  counted : into_iter_len l.item-iterator ≡ length (into_iter_items l.item-iterator);
  whole : after l.values.items (toml_list_items (toml_items (into_iter_items l.item-iterator))) ≡ toml_list_items (toml_items l.fn.items.items);
}

abbrev pub invariant-pairs_of-loop-key : goal.invariant-pairs_of-loop-key
invariant-pairs_of-loop-key l =
    pairs_from (pairs_view l.pairs.entries) (toml_members l.key-iterator) ≡ toml_pairs (toml_members l.fn.members.entries)
