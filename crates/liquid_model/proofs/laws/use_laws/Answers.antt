use Rattle.liquid_model.proofs.Alike.{included_alike, joined_alike}
use Rattle.liquid_model.proofs.Projected.{projected_alike}
use Rattle.liquid_model.proofs.laws.use_laws.Goals as goal

pub returns-clause-included : goal.returns-clause-included
returns-clause-included c = included_alike

pub returns-clause-joined : goal.returns-clause-joined
returns-clause-joined c = joined_alike

pub returns-clause-projected : goal.returns-clause-projected
returns-clause-projected c = projected_alike
