use Rattle.std.proofs.Common.{◌≡◌, take, map, string_bytes}
use Rattle.liquid_model.specs.Lists.{list_of}
use Rattle.liquid_model.specs.View.{view, items_view}
use Rattle.liquid_jekyll_host_filters.specs.Groups.{group_map, items_named}
use Rattle.liquid_jekyll_host_filters.proofs.groups.groups.Given as goal

abbrev pub invariant-loop-found : goal.invariant-loop-found
invariant-loop-found l =
    map view l.groups.items ≡ map (λ t. group_map t (items_named l.name (list_of (items_view l.items)) t)) (map string_bytes (take l.found-index l.found-items))
