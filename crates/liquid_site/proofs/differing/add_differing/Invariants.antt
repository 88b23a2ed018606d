use Rattle.std.proofs.Common.{◌≡◌}
use Rattle.std.specs.Map.{keys_of}
use Rattle.liquid_core.specs.Held.{held}
use Rattle.liquid_syntax.specs.NameSets.{added, mentioned_in_set as held_names}
use Rattle.liquid_site.specs.inside.Differing.{differing}
use Rattle.liquid_site.proofs.differing.add_differing.Given as goal

-- what is left makes of the names so far what all make of the names at first
abbrev pub invariant-loop-name : goal.invariant-loop-name
invariant-loop-name l =
    let names = differing (held l.«data».old.now) (held l.«data».new.now) in
    added (names (keys_of l.name-iterator)) (held_names l.names) ≡ added (names (keys_of l.object.entries)) (held_names l.initial.names)
