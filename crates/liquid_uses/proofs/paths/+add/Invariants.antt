use Rattle.std.proofs.Common.{◌≡◌}
use Rattle.liquid_model.specs.UseViews.{members_view}
use Rattle.liquid_syntax.specs.NameSets.{added, mentioned_in_set}
use Rattle.liquid_uses.specs.Paths.{member_paths}
use Rattle.liquid_uses.proofs.paths.+add.Given as goal

-- with the paths of the members that are left the set has them all
abbrev pub invariant-add_member_paths-loop-key : goal.invariant-add_member_paths-loop-key
invariant-add_member_paths-loop-key l =
    added (member_paths l.path (members_view l.key-iterator)) (mentioned_in_set l.paths) ≡ added (member_paths l.path (members_view l.members.entries)) (mentioned_in_set l.initial.paths)
