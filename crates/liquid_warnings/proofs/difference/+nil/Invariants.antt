use Rattle.std.proofs.Common.{◌≡◌, drop, length, suc, ◌*◌}
use Rattle.liquid_model.specs.View.{items_view}
use Rattle.liquid_warnings.specs.DataDifferences.{any_to_nil, leads_to_nil}
use Rattle.liquid_warnings.proofs.difference.+nil.Given as goal

-- the items that are left decide as all of them do
abbrev pub invariant-any_to_nil-loop-item : goal.invariant-any_to_nil-loop-item
invariant-any_to_nil-loop-item l =
    any_to_nil (leads_to_nil l.rest) (items_view l.items)
    ≡ any_to_nil (leads_to_nil l.rest) (items_view (drop l.item-index l.items))

-- each call leads on by a step, or comes to the rest of the path
abbrev pub decreases-leads_to_nil : goal.decreases-leads_to_nil
decreases-leads_to_nil l = 2 * length l.path.now

abbrev pub decreases-member_to_nil : goal.decreases-member_to_nil
decreases-member_to_nil l = suc (2 * length l.rest.now)

abbrev pub decreases-any_to_nil : goal.decreases-any_to_nil
decreases-any_to_nil l = suc (2 * length l.rest.now)
