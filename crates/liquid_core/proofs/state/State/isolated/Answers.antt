use Rattle.std.proofs.Common.{refl}
use Rattle.liquid_core.proofs.States.{all_empty}
use Rattle.liquid_core.proofs.state.State.isolated.Goals as goal

pub returns-clause-layers : goal.returns-clause-layers
returns-clause-layers c = all_empty _ c.new-2.ensures.items c.new.ensures.items c.new-3.ensures.empty c.new-4.ensures.empty refl c.new-5.ensures.empty refl
