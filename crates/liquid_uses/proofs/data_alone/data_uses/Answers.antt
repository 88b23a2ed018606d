use Rattle.liquid_model.specs.UseViews.{uses_view}
use Rattle.liquid_syntax.specs.NameSets.{mentioned_in_set}
use Rattle.liquid_uses.specs.inside.Readings.{reads_in}
use Rattle.liquid_uses.proofs.DataSight.{data_alone, kept_alone}
use Rattle.liquid_uses.proofs.data_alone.data_uses.Goals as goal

pub returns-in-Any-clause-alone : goal.returns-in-Any-clause-alone
returns-in-Any-clause-alone c = data_alone (uses_view c.in_ok-uses.uses) c.args.partials.now _ c.in_ok-uses.ensures.alone

pub returns-then-are_kept-clause-alone : goal.returns-then-are_kept-clause-alone
returns-then-are_kept-clause-alone c =
    let scoped = rw c.nodes-nodes.ensures at (c.in_ok-is_scoped-in-Only.ensures.scoped c.if-is_scoped.true) in
    kept_alone (reads_in c.in_ok-readings.readings.entries) (uses_view c.in_ok-uses.uses) (uses_view c.in_ok-kept-in-Only.kept) (λ q. mentioned_in_set c.in-Only.names q) c.args.partials.now c.args.template.now _
    (c.in_ok-are_known-in-Only.ensures.covered c.if-are_known.true) c.in_ok-uses.ensures.covers scoped (c.keep_all-are_kept.ensures c.if-are_kept.true)

pub returns-else-is_scoped-clause-alone : goal.returns-else-is_scoped-clause-alone
returns-else-is_scoped-clause-alone c = data_alone (uses_view c.in_ok-uses.uses) c.args.partials.now _ c.in_ok-uses.ensures.alone
