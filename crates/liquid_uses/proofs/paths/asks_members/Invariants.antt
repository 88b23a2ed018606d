use Rattle.std.proofs.Common.{◌≡◌}
use Rattle.liquid_model.specs.UseViews.{members_view}
use Rattle.liquid_uses.specs.Paths.{asks_members}
use Rattle.liquid_uses.proofs.paths.asks_members.Given as goal

-- the members that are left decide as all of them do
abbrev pub invariant-loop-asked : goal.invariant-loop-asked
invariant-loop-asked l = asks_members (members_view l.asked-iterator) ≡ asks_members (members_view l.members.entries)
