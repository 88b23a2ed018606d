use Rattle.std.proofs.Common.{◌≡◌, drop, length, suc, ◌*◌}
use Rattle.liquid_model.specs.View.{items_view}
use Rattle.liquid_warnings.specs.DataPaths.{first_lack, in_items}
use Rattle.liquid_warnings.proofs.data_path.+lacking.Given as goal

-- the items that are left decide as all of them do
abbrev pub invariant-lacking_item-loop-item : goal.invariant-lacking_item-loop-item
invariant-lacking_item-loop-item l =
    in_items (first_lack l.rest) (items_view l.items)
    ≡ in_items (first_lack l.rest) (items_view (drop l.item-index l.items))

-- each call leads on by a step, or comes to the rest of the path
abbrev pub decreases-lacking_below : goal.decreases-lacking_below
decreases-lacking_below l = 2 * length l.path.now

abbrev pub decreases-lacking_member : goal.decreases-lacking_member
decreases-lacking_member l = suc (2 * length l.rest.now)

abbrev pub decreases-lacking_item : goal.decreases-lacking_item
decreases-lacking_item l = suc (2 * length l.rest.now)
