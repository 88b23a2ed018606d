use Rattle.std.proofs.Common.{◌≡◌, ◌++◌, drop, length, suc, ◌*◌}
use Rattle.liquid_model.specs.View.{items_view}
use Rattle.liquid_warnings.specs.DataPaths.{of_each_item, values_along}
use Rattle.liquid_warnings.specs.Views.{values_view}
use Rattle.liquid_warnings.proofs.data_path.+values.Given as goal

-- what is found, and what is left to find, is all
abbrev pub invariant-add_items-loop-item : goal.invariant-add_items-loop-item
invariant-add_items-loop-item l =
    values_view l.initial.found ++ of_each_item (values_along l.rest) (items_view l.items)
    ≡ values_view l.found ++ of_each_item (values_along l.rest) (items_view (drop l.item-index l.items))

-- each call leads on by a step, or comes to the rest of the path
abbrev pub decreases-add_values : goal.decreases-add_values
decreases-add_values l = 2 * length l.path.now

abbrev pub decreases-add_member : goal.decreases-add_member
decreases-add_member l = suc (2 * length l.rest.now)

abbrev pub decreases-add_items : goal.decreases-add_items
decreases-add_items l = suc (2 * length l.rest.now)
