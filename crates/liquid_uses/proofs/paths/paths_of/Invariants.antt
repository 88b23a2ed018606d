use Rattle.std.proofs.Common.{◌≡◌}
use Rattle.liquid_model.specs.UseViews.{members_view}
use Rattle.liquid_syntax.specs.NameSets.{added, mentioned_in_set}
use Rattle.liquid_uses.specs.Paths.{paths_in}
use Rattle.liquid_uses.proofs.paths.paths_of.Given as goal

-- with the paths of the names that are left the set has them all
abbrev pub invariant-loop-name : goal.invariant-loop-name
invariant-loop-name l =
    added (paths_in (members_view l.name-iterator)) (mentioned_in_set l.paths) ≡ added (paths_in (members_view l.uses.entries)) (mentioned_in_set l.initial.paths)
