use Rattle.std.proofs.Common.{◌≡◌, [], drop, map, string_bytes}
use Rattle.liquid_model.specs.Lists.{list_of}
use Rattle.liquid_model.specs.View.{items_view}
use Rattle.liquid_jekyll_host_filters.specs.Groups.{names_after}
use Rattle.liquid_jekyll_host_filters.specs.inside.Members.{AreSeen}
use Rattle.liquid_jekyll_host_filters.proofs.groups.names.Given as goal

abbrev pub invariant-loop-item : goal.invariant-loop-item
invariant-loop-item l =
    (names_after l.name [] (list_of (items_view l.items)) ≡ names_after l.name (map string_bytes l.names.items) (list_of (items_view (drop l.item-index l.items))))
    × AreSeen l.seen (map string_bytes l.names.items)
