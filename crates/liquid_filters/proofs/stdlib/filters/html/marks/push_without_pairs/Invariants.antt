use Rattle.std.proofs.Common.{◌≡◌, ◌++◌, string_bytes, length}
use denote.Text.{Utf8}
use denote.Shadow.{shadow}
use Rattle.std.specs.Str.{chars, encode_utf8_all}
use Rattle.liquid_filters.specs.Tags.{without_pairs}
use Rattle.liquid_filters.proofs.stdlib.filters.html.marks.push_without_pairs.Given as goal

abbrev pub invariant-loop-before : goal.invariant-loop-before
invariant-loop-before l =
    shadow (Utf8 l.rest) × (string_bytes l.initial.out ++ encode_utf8_all (without_pairs l.opener l.closer (chars l.text)) ≡ string_bytes l.out ++ encode_utf8_all (without_pairs l.opener l.closer (chars l.rest)))

abbrev pub decreases-loop-before : goal.decreases-loop-before
decreases-loop-before l = length l.rest
