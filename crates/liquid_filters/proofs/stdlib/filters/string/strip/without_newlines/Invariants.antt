use Rattle.std.proofs.Common.{◌≡◌, ◌++◌, string_bytes, length}
use denote.Text.{Utf8}
use denote.Shadow.{shadow}
use Rattle.liquid_filters.specs.Strip.{without_newlines}
use Rattle.liquid_filters.proofs.stdlib.filters.string.strip.without_newlines.Given as goal

abbrev pub invariant-loop-line : goal.invariant-loop-line
invariant-loop-line l = shadow (Utf8 l.rest) × (without_newlines l.text ≡ string_bytes l.out ++ without_newlines l.rest)

abbrev pub decreases-loop-line : goal.decreases-loop-line
decreases-loop-line l = length l.rest
