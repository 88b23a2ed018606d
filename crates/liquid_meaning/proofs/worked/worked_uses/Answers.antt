use Rattle.liquid_meaning.proofs.worked.worked_uses.Goals as goal
use Rattle.liquid_meaning.proofs.ComputedUses.{worked_uses}

pub returns : goal.returns
returns c = worked_uses
