use Rattle.std.proofs.Common.{◌≤◌, ◌∙◌, ap, length, subst}
use Rattle.std.specs.Char.{is_ascii_whitespace}
use Rattle.std.specs.List.{prefix_len}
use Rattle.liquid_jekyll_host_filters.proofs.Fronts.{white_boundary}
use Rattle.liquid_jekyll_host_filters.proofs.numbers.leading_number.Goals as goal

pub split_at-requires : goal.split_at-requires
split_at-requires c =
    white_boundary c.args.text.now c.white_len.result c.utf8.text (subst (λ s. c.white_len.result ≤ length s) c.as_bytes.ensures.value c.white_len.ensures.within) (c.white_len.ensures.value ∙ ap (prefix_len is_ascii_whitespace) c.as_bytes.ensures.value)
