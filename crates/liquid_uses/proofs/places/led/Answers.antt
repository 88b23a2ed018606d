use Rattle.std.proofs.Common.{sym, ap, ◌∙◌}
use mathlib.Core.Path.{subst}
use Rattle.liquid_core.specs.ExpressionView.{expression_view}
use Rattle.liquid_core.proofs.ExpressionViews.{literal_is}
use Rattle.liquid_uses.specs.inside.Placing.{Leads}
use Rattle.liquid_uses.proofs.Steps.{seen_leads}
use Rattle.liquid_uses.proofs.places.led.Goals as goal

pub returns-in-Literal : goal.returns-in-Literal
returns-in-Literal c = λ U g. subst (λ x. Leads U c.args.place x c.led_by.result) (sym (ap expression_view c.in-Literal.is ∙ literal_is c.in-Literal.value)) (c.led_by.ensures U)

pub returns-in-Variable : goal.returns-in-Variable
returns-in-Variable c = λ U g.
    subst (λ p. Leads U c.args.place (expression_view c.args.step.now) p) (sym c.if_whole.ensures) (seen_leads U c.args.place (expression_view c.args.step.now) c.args.seen g)
