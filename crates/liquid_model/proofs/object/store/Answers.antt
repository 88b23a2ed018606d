use Rattle.std.proofs.Common.{ap, ◌∙◌}
use Rattle.liquid_model.specs.View.{pairs_view}
use Rattle.liquid_model.proofs.Views.{pairs_view-insert_entry}
use Rattle.liquid_model.proofs.object.store.Goals as goal

pub returns-clause-stored : goal.returns-clause-stored
returns-clause-stored c = ap pairs_view c.in_ok-insert.ensures.entries ∙ pairs_view-insert_entry c.args.object.now.entries c.args.key c.args.value
