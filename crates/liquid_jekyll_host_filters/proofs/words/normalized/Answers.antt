use Rattle.std.proofs.Common.{◌≡◌, ◌++◌, ◌∙◌, [], ap, sym, rules, string_bytes, append-nil}
use Rattle.liquid_jekyll_host_filters.specs.Words.{words}
use Rattle.liquid_jekyll_host_filters.proofs.SplitWords.{after, after_none, next_word, none_left, word_off}
use Rattle.liquid_jekyll_host_filters.proofs.words.normalized.Goals as goal

pub loop-word-preserved : goal.loop-word-preserved
loop-word-preserved c =
    let s = c.in-Some.ensures.steps in
    let off = word_off _ _ _ s.0 s.1 s.3.0 s.3.1 s.3.2 s.3.3 s.3.4 in
    (search rules, next_word _ _ _ _ _ _ _ _ off c.in_ok-push_str.ensures.bytes c.in_ok-push_str-2.ensures.bytes c.loop-word.invariant.1)

pub returns : goal.returns
returns c = sym (c.loop-word.invariant.1 ∙ ap (λ ws. string_bytes c.loop-word.out ++ after c.loop-word.before.now ws) (none_left _ c.in-None.ensures.steps.0) ∙ append-nil (string_bytes c.loop-word.out))
