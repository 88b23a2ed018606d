use Rattle.std.proofs.Common.{◌≡◌, true}
use Rattle.liquid_model.specs.UseViews.{members_view}
use Rattle.liquid_uses.proofs.Chains.{Placed}
use Rattle.liquid_uses.proofs.place_pairs.Pair.takes_places.Given as goal

-- where those that are left pass, all do
abbrev pub invariant-loop-key : goal.invariant-loop-key
invariant-loop-key l = Placed l.self (members_view l.key-iterator) → Placed l.self (members_view l.members.entries)
