use Rattle.std.proofs.Common.{map, string_bytes, ◌≡◌, ◌++◌, drop}
use Rattle.liquid_model.specs.Data.{text_of}
use Rattle.liquid_model.specs.Lists.{list_of}
use Rattle.liquid_model.specs.View.{items_view}
use Rattle.liquid_model.specs.Joined.{joined, joined_rest}
use Rattle.liquid_filters.proofs.stdlib.filters.array.join.joined.Given as goal

abbrev pub invariant-loop-item : goal.invariant-loop-item
invariant-loop-item l =
    joined l.separator (map text_of (list_of (items_view l.items))) ≡ string_bytes l.out ++ joined_rest l.separator (map text_of (list_of (items_view (drop l.item-index l.rest))))
