use Rattle.std.proofs.Common.{◌≡◌}
use Rattle.liquid_model.specs.UseViews.{members_view}
use Rattle.liquid_json.specs.inside.Copies.{any_by_place}
use Rattle.liquid_json.proofs.copies.any_by_place.Given as goal

-- the names that are left decide as all of them do
abbrev pub invariant-loop-name : goal.invariant-loop-name
invariant-loop-name l = any_by_place (members_view l.name-iterator) ≡ any_by_place (members_view l.members.entries)
