use Rattle.std.proofs.Common.{◌≡◌, List, ◌++◌, take}
use Rattle.liquid_model.specs.View.{items_view, pairs_view}
use Rattle.liquid_model.proofs.Views.{Entry}
use Rattle.liquid_filter_sets.proofs.ValueParts.{ItemsSeen, PairsSeen}
use Rattle.liquid_filter_sets.proofs.json_texts.+nests_within.Given as goal

abbrev pub invariant-items_nest_within-loop-item : goal.invariant-items_nest_within-loop-item
invariant-items_nest_within-loop-item l = ItemsSeen (items_view (take l.item-index l.item-items)) l.most l.within

abbrev pub invariant-pairs_nest_within-loop-key : goal.invariant-pairs_nest_within-loop-key
invariant-pairs_nest_within-loop-key l =
    (done : List Entry) × (l.pairs.entries ≡ done ++ l._key-iterator) × PairsSeen (pairs_view done) l.most l.within
