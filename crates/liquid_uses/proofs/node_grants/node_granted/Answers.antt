use Rattle.std.proofs.Common.{◌&&◌, sym, ap, ◌∙◌}
use Rattle.liquid_core.specs.ExpressionView.{expression_view}
use Rattle.liquid_model.specs.Uses.{there}
use Rattle.liquid_model.specs.UseViews.{uses_view}
use Rattle.liquid_meaning.specs.Reading.{grants}
use Rattle.liquid_syntax.specs.Flats.{arm_values}
use Rattle.liquid_uses.specs.inside.OwnGrants.{arms_granted, own_grants}
use Rattle.liquid_uses.proofs.TreeGrants.{case_granted}
use Rattle.liquid_uses.proofs.node_grants.node_granted.Goals as goal

pub returns-in-Case : goal.returns-in-Case
returns-in-Case c = λ holds.
    let U = uses_view c.args.uses.now in
    let target = expression_view c.in-Case.target in
    ap (own_grants U) c.in-Case.is ∙ case_granted U c.in-Case.target c.in-Case.arms c.in-Case.field-2
    ∙ ap (λ arms. grants U target there && arms_granted U target (arm_values arms)) (sym c.deref-in-Case.ensures.value)
    ∙ c.case_granted.ensures holds
