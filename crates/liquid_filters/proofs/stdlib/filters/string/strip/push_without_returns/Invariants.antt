use Rattle.std.proofs.Common.{◌≡◌, ◌++◌, string_bytes, length}
use denote.Text.{Utf8}
use denote.Shadow.{shadow}
use Rattle.liquid_filters.specs.Strip.{without_returns}
use Rattle.liquid_filters.proofs.stdlib.filters.string.strip.push_without_returns.Given as goal

abbrev pub invariant-loop-before : goal.invariant-loop-before
invariant-loop-before l = shadow (Utf8 l.rest) × (string_bytes l.initial.out ++ without_returns l.text ≡ string_bytes l.out ++ without_returns l.rest)

abbrev pub decreases-loop-before : goal.decreases-loop-before
decreases-loop-before l = length l.rest
