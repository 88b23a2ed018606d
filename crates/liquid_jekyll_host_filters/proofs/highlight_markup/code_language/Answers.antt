use Rattle.std.proofs.Common.{◌≤◌, ◌∙◌, ap, length, subst}
use Rattle.std.specs.List.{prefix_len}
use Rattle.liquid_jekyll_host_filters.specs.Highlight.{in_language}
use Rattle.liquid_jekyll_host_filters.proofs.StrippedEnds.{language_cut}
use Rattle.liquid_jekyll_host_filters.proofs.highlight_markup.code_language.Goals as goal

pub split_at-requires : goal.split_at-requires
split_at-requires c =
    language_cut c.args.markup.now c.language_len.result c.utf8.markup (subst (λ s. c.language_len.result ≤ length s) c.as_bytes.ensures.value c.language_len.ensures.within) (c.language_len.ensures.value ∙ ap (prefix_len in_language) c.as_bytes.ensures.value)
