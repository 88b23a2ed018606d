use Rattle.std.proofs.Common.{refl}
use Rattle.liquid_engine.proofs.Reserves.{kept_limited, kept_reserve}
use Rattle.liquid_engine.proofs.output.Output.need_room.Goals as goal

pub returns-clause-bounded : goal.returns-clause-bounded
returns-clause-bounded g c = kept_reserve g.W.CountedWrite.left _ _ refl (c.if-room.ensures.kept refl)

pub returns-clause-limited : goal.returns-clause-limited
returns-clause-limited g c = kept_limited g.W.CountedWrite.left _ _ (c.if-room.ensures.kept refl)
