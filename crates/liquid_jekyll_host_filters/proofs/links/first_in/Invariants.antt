use Rattle.std.proofs.Common.{◌≡◌, drop, map}
use Rattle.liquid_model.specs.View.{view}
use Rattle.liquid_jekyll_host_filters.specs.Links.{first_in, is_sought}
use Rattle.liquid_jekyll_host_filters.proofs.links.first_in.Given as goal

abbrev pub invariant-loop-list : goal.invariant-loop-list
invariant-loop-list l = first_in (is_sought l.sought) (map view l.lists) ≡ first_in (is_sought l.sought) (map view (drop l.list-index l.lists))
