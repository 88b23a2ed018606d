use Rattle.liquid_filters.proofs.Joining.{join_law}
use Rattle.liquid_filters.proofs.laws.join_gives_back.Goals as goal

pub returns : goal.returns
returns c = join_law
