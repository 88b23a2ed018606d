use Rattle.std.proofs.Common.{refl}
use Rattle.liquid_engine.proofs.Reserves.{bytes_are_limited, bytes_reserve, kept_limited, kept_reserve, no_less}
use Rattle.liquid_engine.proofs.output.Output.take_value.Goals as goal

pub returns-then-not-counts_bytes-clause-bounded : goal.returns-then-not-counts_bytes-clause-bounded
returns-then-not-counts_bytes-clause-bounded g c = no_less

pub returns-then-room-clause-bounded : goal.returns-then-room-clause-bounded
returns-then-room-clause-bounded g c = bytes_reserve g.W.CountedWrite.left _ _ _ refl (c.if-room.ensures.takes refl)

pub returns-then-room-clause-limited : goal.returns-then-room-clause-limited
returns-then-room-clause-limited g c = bytes_are_limited g.W.CountedWrite.left _ _ _ (c.if-room.ensures.takes refl)

pub returns-clause-bounded : goal.returns-clause-bounded
returns-clause-bounded g c = kept_reserve g.W.CountedWrite.left _ _ refl (c.if-room.ensures.kept refl)

pub returns-clause-limited : goal.returns-clause-limited
returns-clause-limited g c = kept_limited g.W.CountedWrite.left _ _ (c.if-room.ensures.kept refl)
