use Rattle.std.proofs.Common.{◌≡◌, ◌++◌, map}
use Rattle.liquid_model.specs.View.{view, pairs_view}
use Rattle.liquid_jekyll_host_filters.specs.Searches.{values}
use Rattle.liquid_filter_sets.specs.Selections.{items_passing_test}
use Rattle.liquid_filter_sets.specs.Views.{test_view}
use Rattle.liquid_filter_sets.proofs.where_exp.selected_values.Given as goal

-- what was kept, and what will be of those that are left
abbrev pub invariant-loop-key : goal.invariant-loop-key
invariant-loop-key l =
    items_passing_test (test_view l.test) (values (pairs_view l.pairs.entries)) ≡ map view l.kept.items ++ items_passing_test (test_view l.test) (values (pairs_view l._key-iterator))
