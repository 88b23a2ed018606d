use Rattle.liquid_meaning.proofs.worked.worked_names.Goals as goal
use Rattle.liquid_meaning.proofs.Computed.{worked_names}

pub returns : goal.returns
returns c = worked_names
