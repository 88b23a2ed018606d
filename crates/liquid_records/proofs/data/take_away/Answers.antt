use Rattle.liquid_core.proofs.DataChanges.{value_taken}
use Rattle.liquid_records.proofs.data.take_away.Goals as goal

pub returns : goal.returns
returns c = value_taken c.args.name.now c.args.«data».now c.remove.new.self c.remove.ensures.updates
