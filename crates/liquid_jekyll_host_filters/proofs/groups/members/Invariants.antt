use Rattle.std.proofs.Common.{◌≡◌, ◌++◌, ℕ, List, drop}
use Rattle.liquid_model.specs.Lists.{list_of}
use Rattle.liquid_model.specs.View.{items_view}
use Rattle.liquid_jekyll_host_filters.specs.Groups.{items_named}
use Rattle.liquid_jekyll_host_filters.specs.inside.Members.{members_of}
use Rattle.liquid_jekyll_host_filters.proofs.groups.members.Given as goal

abbrev pub invariant-loop-item : goal.invariant-loop-item
invariant-loop-item l =
    (q : List ℕ) → items_named l.name (list_of (items_view l.items)) q ≡ members_of l.members q ++ items_named l.name (list_of (items_view (drop l.item-index l.items))) q
