use Rattle.std.proofs.Common.{◌≡◌}
use Rattle.liquid_model.specs.Uses.{includes_fields, parts, uncounted}
use Rattle.liquid_model.specs.UseViews.{members_view}
use Rattle.liquid_model.proofs.uses.+included.Given as goal

-- the names that are left decide as all of them do
abbrev pub invariant-included_members-loop-name : goal.invariant-included_members-loop-name
invariant-included_members-loop-name l =
    includes_fields (parts (members_view l.held.entries) uncounted) (members_view l.name-iterator) ≡ includes_fields (parts (members_view l.held.entries) uncounted) (members_view l.asked.entries)
