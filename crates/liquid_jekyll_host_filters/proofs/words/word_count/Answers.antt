use Rattle.std.proofs.Common.{◌≡◌, ◌∙◌, length, ap, sym}
use Rattle.std.specs.Str.Iter.{split_ascii_whitespace_text}
use Rattle.liquid_jekyll_host_filters.specs.Words.{words}
use Rattle.liquid_jekyll_host_filters.proofs.SplitWords.{counted_words}
use Rattle.liquid_jekyll_host_filters.proofs.words.word_count.Goals as goal

pub returns : goal.returns
returns c =
    let r = c.count.ensures.ran in
    r.2 ∙ sym (counted_words split_ascii_whitespace_text r.0 _ r.1.0 r.1.1.0 r.1.1.1 r.1.1.2) ∙ ap (λ s. length (words s)) c.split_ascii_whitespace.ensures.text
