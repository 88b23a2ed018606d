use Rattle.std.proofs.Common.{length, ◌++◌, string_bytes, ◌≡◌}
use denote.Text.{Utf8}
use denote.Shadow.{shadow}
use Rattle.std.specs.List.{flat_map}
use Rattle.liquid_filters.specs.inside.Replaced.{replaced_by}
use Rattle.liquid_filters.proofs.stdlib.filters.replaced.+push_replaced.Given as goal

abbrev pub decreases-push_replaced : goal.decreases-push_replaced
decreases-push_replaced l = length l.replacements.now

abbrev pub invariant-loop-before : goal.invariant-loop-before
invariant-loop-before l =
    shadow (Utf8 l.rest) × (string_bytes l.initial.out ++ flat_map (replaced_by l.replacements) l.text ≡ string_bytes l.out ++ flat_map (replaced_by l.replacements) l.rest)

abbrev pub decreases-loop-before : goal.decreases-loop-before
decreases-loop-before l = length l.rest
