use Rattle.std.proofs.Common.{◌≡◌, ◌++◌, map, drop}
use Rattle.liquid_model.specs.Lists.{list_of}
use Rattle.liquid_model.specs.View.{view, items_view}
use Rattle.liquid_filter_sets.specs.Selections.{items_passing_test}
use Rattle.liquid_filter_sets.specs.Views.{test_view}
use Rattle.liquid_filter_sets.proofs.where_exp.selected.Given as goal

-- what was kept, and what will be of those that are left
abbrev pub invariant-loop-item : goal.invariant-loop-item
invariant-loop-item l =
    items_passing_test (test_view l.test) (list_of (items_view l.items)) ≡ map view l.kept.items ++ items_passing_test (test_view l.test) (list_of (items_view (drop l.item-index l.items)))
