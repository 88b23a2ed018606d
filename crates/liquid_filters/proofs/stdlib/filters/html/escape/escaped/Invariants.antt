use Rattle.std.proofs.Common.{◌≡◌, ◌++◌, string_bytes, length}
use denote.Text.{Utf8}
use denote.Shadow.{shadow}
use Rattle.liquid_filters.specs.Escapes.{escaped_bytes}
use Rattle.liquid_filters.proofs.stdlib.filters.html.escape.escaped.Given as goal

abbrev pub invariant-loop-plain : goal.invariant-loop-plain
invariant-loop-plain l = shadow (Utf8 l.rest) × (escaped_bytes l.text ≡ string_bytes l.out ++ escaped_bytes l.rest)

abbrev pub decreases-loop-plain : goal.decreases-loop-plain
decreases-loop-plain l = length l.rest
