use Rattle.liquid_meaning.proofs.laws.partial_laws.Goals as goal
use Rattle.liquid_meaning.proofs.PartialLaws.{partials_in_reach}

pub returns : goal.returns
returns c = record { in_reach = partials_in_reach }
