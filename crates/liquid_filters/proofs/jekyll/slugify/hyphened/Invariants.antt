use Rattle.std.proofs.Common.{◌≡◌, ◌++◌, false, string_bytes}
use Rattle.std.specs.Str.{chars, encode_utf8_all, IsUtf8}
use Rattle.liquid_filters.specs.Slugs.{hyphened, keeps}
use Rattle.liquid_filters.proofs.jekyll.slugify.hyphened.Given as goal

abbrev pub invariant-loop-letter : goal.invariant-loop-letter
invariant-loop-letter l =
    IsUtf8 l.rest.rest.now × (encode_utf8_all (hyphened (keeps l.mode) false (chars l.text)) ≡ string_bytes l.out ++ encode_utf8_all (hyphened (keeps l.mode) l.after (chars l.rest.rest.now)))
