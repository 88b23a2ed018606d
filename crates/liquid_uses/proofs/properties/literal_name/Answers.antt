use Rattle.std.proofs.Common.{◌≡◌, false, codes, sym, ap, ◌∙◌}
use Rattle.liquid_core.specs.Expression.{literal}
use Rattle.liquid_core.specs.ExpressionView.{expression_view}
use Rattle.liquid_core.proofs.ExpressionViews.{literal_is}
use Rattle.liquid_model.specs.Data.{text}
use Rattle.liquid_model.specs.Texts.{same_text}
use Rattle.liquid_model.specs.View.{view}
use Rattle.liquid_uses.specs.inside.Chains.{IsPropertyName}
use Rattle.liquid_uses.proofs.PropertyNames.{match_more}
use Rattle.liquid_uses.proofs.properties.literal_name.Goals as goal

pub returns-in-Literal : goal.returns-in-Literal
returns-in-Literal c =
    match_more (λ n. (view c.in-Literal.value ≡ text n.now) × (same_text n.now (codes "size") ≡ false)) (λ n. IsPropertyName (expression_view c.args.expression.now) n.now)
    (λ n is. (ap expression_view c.in-Literal.is ∙ literal_is c.in-Literal.value ∙ ap literal is.0, is.1)) c.text_name.result c.text_name.ensures
