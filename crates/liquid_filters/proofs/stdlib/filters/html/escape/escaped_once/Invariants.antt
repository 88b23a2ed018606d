use Rattle.std.proofs.Common.{◌≡◌, ◌++◌, string_bytes, length}
use denote.Text.{Utf8}
use denote.Shadow.{shadow}
use Rattle.liquid_filters.specs.Escapes.{escaped_once}
use Rattle.liquid_filters.proofs.stdlib.filters.html.escape.escaped_once.Given as goal

abbrev pub invariant-loop-plain : goal.invariant-loop-plain
invariant-loop-plain l = shadow (Utf8 l.rest) × (escaped_once l.text ≡ string_bytes l.out ++ escaped_once l.rest)

abbrev pub decreases-loop-plain : goal.decreases-loop-plain
decreases-loop-plain l = length l.rest
