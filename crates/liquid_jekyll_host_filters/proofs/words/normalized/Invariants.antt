use Rattle.std.proofs.Common.{◌≡◌, ◌++◌, string_bytes}
use denote.Text.{Utf8}
use denote.Shadow.{shadow}
use Rattle.std.specs.Str.Iter.{split_ascii_whitespace_text}
use Rattle.liquid_jekyll_host_filters.specs.Words.{normalized, words}
use Rattle.liquid_jekyll_host_filters.proofs.SplitWords.{after}
use Rattle.liquid_jekyll_host_filters.proofs.words.normalized.Given as goal

abbrev pub invariant-loop-word : goal.invariant-loop-word
invariant-loop-word l =
    shadow (Utf8 l.before) × (normalized l.text ≡ string_bytes l.out ++ after l.before (words (split_ascii_whitespace_text l.word-iterator)))
