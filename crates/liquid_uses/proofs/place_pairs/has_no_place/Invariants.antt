use Rattle.std.proofs.Common.{◌≡◌}
use Rattle.liquid_model.specs.UseViews.{members_view}
use Rattle.liquid_uses.specs.inside.Chains.{are_unplaced_fields}
use Rattle.liquid_uses.proofs.place_pairs.has_no_place.Given as goal

-- the keys that are left decide as all of them do
abbrev pub invariant-loop-key : goal.invariant-loop-key
invariant-loop-key l = are_unplaced_fields (members_view l.key-iterator) ≡ are_unplaced_fields (members_view l.members.entries)
