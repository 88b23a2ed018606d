use Rattle.std.proofs.Common.{◌≡◌, ◌++◌, string_bytes, length}
use denote.Text.{Utf8}
use denote.Shadow.{shadow}
use Rattle.liquid_jekyll_host_filters.specs.Escapes.{escaped}
use Rattle.liquid_jekyll_host_filters.proofs.escapes.push_escaped.Given as goal

abbrev pub invariant-loop-plain : goal.invariant-loop-plain
invariant-loop-plain l = shadow (Utf8 l.rest) × (string_bytes l.initial.out ++ escaped l.text ≡ string_bytes l.out ++ escaped l.rest)

abbrev pub decreases-loop-plain : goal.decreases-loop-plain
decreases-loop-plain l = length l.rest
