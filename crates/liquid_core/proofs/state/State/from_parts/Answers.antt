use Rattle.std.proofs.Common.{refl}
use Rattle.liquid_core.proofs.States.{put_together}
use Rattle.liquid_core.proofs.state.State.from_parts.Goals as goal

pub returns-clause-layers : goal.returns-clause-layers
returns-clause-layers c = put_together _ c.args.parts c.new.ensures.items refl refl refl refl refl refl refl
