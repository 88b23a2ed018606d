use Rattle.std.proofs.Common.{sym, ap, ◌∙◌}
use mathlib.Core.Path.{subst}
use Rattle.liquid_core.specs.Expression.{literal}
use Rattle.liquid_model.specs.Data.{text}
use Rattle.liquid_model.specs.UseViews.{members_view, turns_view, use_view}
use Rattle.liquid_model.proofs.UseViews.{view-Nothing, view-Everything, view-Parts}
use Rattle.liquid_uses.specs.inside.Placing.{Leads}
use Rattle.liquid_uses.specs.declared.places.Place.TheVariants.{Asked}
use Rattle.liquid_uses.proofs.Steps.{step_of_nothing, step_of_everything, step_of_parts}
use Rattle.liquid_uses.proofs.places.member_at.Goals as goal

pub returns-in-Nothing : goal.returns-in-Nothing
returns-in-Nothing c = λ U. step_of_nothing c.args.asked c.args.key.now (ap use_view c.in-Nothing.is ∙ view-Nothing) U

pub returns-in-Everything : goal.returns-in-Everything
returns-in-Everything c = λ U. step_of_everything c.args.asked c.args.key.now (ap use_view c.in-Everything.is ∙ view-Everything) U

pub returns-in-Parts : goal.returns-in-Parts
returns-in-Parts c = λ U.
    let view = ap use_view c.in-Parts.is ∙ view-Parts c.in-Parts.members c.in-Parts.items in
    let leads = step_of_parts c.args.asked c.args.key.now (members_view c.in-Parts.members.entries) (turns_view c.in-Parts.items) view c.member_of.result c.member_of.ensures U in
    subst (λ p. Leads U (Asked c.args.asked) (literal (text c.args.key.now)) p) (sym c.of.ensures) leads
