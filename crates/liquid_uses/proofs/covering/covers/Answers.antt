use Rattle.std.proofs.Common.{ap, ◌∙◌}
use Rattle.liquid_model.specs.UseViews.{uses_view}
use Rattle.liquid_uses.proofs.Steps.{true_both}
use Rattle.liquid_uses.proofs.TreeGrants.{template_grants, partials_grant}
use Rattle.liquid_uses.proofs.covering.covers.Goals as goal

pub returns-then-nodes_granted : goal.returns-then-nodes_granted
returns-then-nodes_granted c = λ answers h.
    let U = uses_view c.args.uses.now in
    let listed = rw c.nodes.ensures at c.nodes_granted.ensures in
    true_both _ _ (template_grants U c.args.template.now ∙ listed c.if-nodes_granted.true) (partials_grant U c.args.partials.now.templates.entries ∙ c.partials_granted.ensures h)
