use Rattle.liquid_model.specs.UseViews.{uses_view}
use Rattle.liquid_syntax.specs.NameSets.{mentioned_in_set}
use Rattle.liquid_uses.proofs.Sight.{sees_alone, whole_covers}
use Rattle.liquid_uses.proofs.uses.uses_of.Goals as goal

pub returns-then-covers-clause-covers : goal.returns-then-covers-clause-covers
returns-then-covers-clause-covers c = λ answers. c.covers.ensures answers c.if-covers.true

pub returns-then-covers-clause-alone : goal.returns-then-covers-clause-alone
returns-then-covers-clause-alone c = sees_alone (uses_view c.in_ok-fixpoint.fixpoint) c.args.partials.now c.args.template.now (λ answers. c.covers.ensures answers c.if-covers.true)

pub returns-else-covers-clause-covers : goal.returns-else-covers-clause-covers
returns-else-covers-clause-covers c =
    whole_covers (uses_view c.in_ok-whole.whole) (mentioned_in_set c.in_ok-names.names) c.args.partials.now c.args.template.now c.in_ok-whole.ensures c.in_ok-names.ensures.exact

pub returns-else-covers-clause-alone : goal.returns-else-covers-clause-alone
returns-else-covers-clause-alone c =
    sees_alone (uses_view c.in_ok-whole.whole) c.args.partials.now c.args.template.now
    (whole_covers (uses_view c.in_ok-whole.whole) (mentioned_in_set c.in_ok-names.names) c.args.partials.now c.args.template.now c.in_ok-whole.ensures c.in_ok-names.ensures.exact)
