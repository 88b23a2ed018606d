use Rattle.std.proofs.Common.{◌≡◌}
use Rattle.liquid_model.specs.UseViews.{members_view}
use Rattle.liquid_uses.specs.Paths.{are_words}
use Rattle.liquid_uses.proofs.paths.are_words.Given as goal

-- the keys that are left decide as all of them do
abbrev pub invariant-loop-key : goal.invariant-loop-key
invariant-loop-key l = are_words (members_view l.key-iterator) ≡ are_words (members_view l.members.entries)
