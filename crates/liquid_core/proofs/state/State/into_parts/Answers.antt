use Rattle.std.proofs.Common.{refl}
use Rattle.liquid_core.proofs.States.{taken_apart}
use Rattle.liquid_core.proofs.state.State.into_parts.Goals as goal

pub returns : goal.returns
returns c = λ plain. taken_apart c.args.self _ plain refl refl refl refl refl refl refl
