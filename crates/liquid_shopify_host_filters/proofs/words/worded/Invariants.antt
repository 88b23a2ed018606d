use Rattle.std.proofs.Common.{◌≡◌, ◌++◌, string_bytes}
use Rattle.std.specs.Str.{chars, encode_utf8_all, IsUtf8}
use Rattle.liquid_shopify_host_filters.specs.Words.{worded, worded_text}
use Rattle.liquid_shopify_host_filters.proofs.words.worded.Given as goal

abbrev pub invariant-loop-letter : goal.invariant-loop-letter
invariant-loop-letter l =
    IsUtf8 l.rest.rest.now
    × (worded_text l.wording l.text
    ≡ string_bytes l.out ++ encode_utf8_all (worded l.wording l.state (chars l.rest.rest.now)))
