use Rattle.std.proofs.Common.{◌≡◌, ◌≤◌, ◌-◌, ◌∙◌, ap, length, subst, sym}
use Rattle.std.specs.List.{prefix_len, suffix_len}
use Rattle.std.specs.Str.{IsCharBoundary}
use Rattle.liquid_jekyll_host_filters.specs.Highlight.{is_ruby_stripped}
use Rattle.liquid_jekyll_host_filters.proofs.StrippedEnds.{back_cut, front_cut}
use Rattle.liquid_jekyll_host_filters.proofs.highlight.ruby_stripped.Goals as goal

pub split_at-requires : goal.split_at-requires
split_at-requires c =
    front_cut c.args.text.now c.stripped_front.result c.utf8.text (subst (λ s. c.stripped_front.result ≤ length s) c.as_bytes.ensures.value c.stripped_front.ensures.within) (c.stripped_front.ensures.value ∙ ap (prefix_len is_ruby_stripped) c.as_bytes.ensures.value)

pub split_at-requires-2 : goal.split_at-requires-2
split_at-requires-2 c =
    let rest = c.split_at.result.1.now in
    let same : suffix_len is_ruby_stripped rest ≡ c.stripped_end.result = sym (c.stripped_end.ensures.value ∙ ap (suffix_len is_ruby_stripped) c.as_bytes-2.ensures.value) in
    subst (λ n. IsCharBoundary rest (length rest - n)) same (back_cut rest)
