use Rattle.std.proofs.Common.{◌∙◌, [], ◌∷◌, ◌++◌, ap, codes}
use Rattle.liquid_model.specs.Data.{text}
use Rattle.liquid_model.specs.declared.value.Value.{Text as TextValue}
use Rattle.liquid_model.proofs.Views.{view-Text}
use Rattle.liquid_core.specs.Expression.{literal, no_steps, step, variable}
use Rattle.liquid_core.specs.ExpressionView.{steps_view}
use Rattle.liquid_core.specs.declared.expression.Expression.{Literal}
use Rattle.liquid_core.proofs.ExpressionViews.{literal_is}
use Rattle.liquid_lexer.proofs.Expressions.{view-Variable}
use Rattle.liquid_filter_sets.proofs.jekyll_tags.of_site.Goals as goal

pub returns : goal.returns
returns c =
    let value = TextValue c.in_ok-from_str.field-0 in
    view-Variable c.in_ok-name.name c.push.new.self
    ∙ ap (λ w. variable w (steps_view c.push.new.self.items)) c.in_ok-name.ensures.ok
    ∙ ap (λ xs. variable (codes "site") (steps_view xs)) (c.in_ok-push.ensures.items ∙ ap (λ xs. xs ++ Literal value ∷ []) c.in_ok-indexes.ensures.items)
    ∙ ap (λ x. variable (codes "site") (step x no_steps)) (literal_is value ∙ ap literal (view-Text c.in_ok-from_str.field-0 ∙ ap text c.in_ok-from_str.ensures.ok))
