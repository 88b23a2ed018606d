use Rattle.std.proofs.Common.{◌≡◌, ◌++◌, map}
use Rattle.liquid_model.specs.View.{view, pairs_view}
use Rattle.liquid_jekyll_host_filters.specs.Searches.{values}
use Rattle.liquid_jekyll_host_filters.proofs.searches.values.Given as goal

abbrev pub invariant-loop-key : goal.invariant-loop-key
invariant-loop-key l = values (pairs_view l.pairs.entries) ≡ map view l.items.items ++ values (pairs_view l._key-iterator)
