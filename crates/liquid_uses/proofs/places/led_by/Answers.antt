use Rattle.std.proofs.Common.{true, refl, sym, ap, ◌∙◌}
use mathlib.Core.Path.{subst}
use Rattle.liquid_core.specs.Expression.{literal}
use Rattle.liquid_model.specs.Data.{text}
use Rattle.liquid_model.specs.View.{view}
use Rattle.liquid_model.proofs.Views.{view-Text}
use Rattle.liquid_uses.specs.inside.Placing.{Leads}
use Rattle.liquid_uses.proofs.Steps.{seen_literal}
use Rattle.liquid_uses.proofs.places.led_by.Goals as goal

pub returns-in-Text : goal.returns-in-Text
returns-in-Text c = λ U.
    subst (λ d. Leads U c.args.place (literal d) c.at.result) (ap text c.as_str.ensures.value ∙ sym (ap view c.in-Text.is ∙ view-Text c.in-Text.key)) (c.at.ensures U)

pub returns-in_default : goal.returns-in_default
returns-in_default c = λ U.
    subst (λ p. Leads U c.args.place (literal (view c.args.value.now)) p) (sym c.if_whole.ensures) (seen_literal U c.args.place (view c.args.value.now))
