use Rattle.std.proofs.Common.{◌∙◌, ap, codes}
use Rattle.liquid_core.specs.Expression.{variable}
use Rattle.liquid_core.specs.ExpressionView.{steps_view}
use Rattle.liquid_lexer.proofs.Expressions.{view-Variable}
use Rattle.liquid_filter_sets.proofs.jekyll_tags.seo_text.Goals as goal

pub returns : goal.returns
returns c =
    view-Variable c.in_ok-name.name c.new-indexes.result
    ∙ ap (λ w. variable w (steps_view c.new-indexes.result.items)) c.in_ok-name.ensures.ok
    ∙ ap (λ xs. variable (codes "seo_tag") (steps_view xs)) c.new-indexes.ensures.items
