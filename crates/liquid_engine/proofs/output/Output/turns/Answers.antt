use Rattle.std.proofs.Common.{rules, refl}
use Rattle.liquid_engine.specs.Sinks.{sink_of}
use Rattle.liquid_engine.proofs.Turns.{refused_cut}
use Rattle.liquid_engine.proofs.Reserves.{kept_limited, kept_reserve, turns_are_limited, turns_reserve}
use Rattle.liquid_engine.proofs.output.Output.turns.Goals as goal

pub returns-clause-stopped : goal.returns-clause-stopped
returns-clause-stopped g c = c.if-turns.ensures.refused refl

pub returns-clause-refused : goal.returns-clause-refused
returns-clause-refused g c = refused_cut c.refused_turns.result _ _ c.refused_turns.ensures (c.if-turns.ensures.refused refl) refl c.if-turns.ensures.same

pub returns-then-turns-clause-bounded : goal.returns-then-turns-clause-bounded
returns-then-turns-clause-bounded g c = turns_reserve g.W.CountedWrite.left _ _ _ refl (c.if-turns.ensures.takes refl)

pub returns-then-turns-clause-limited : goal.returns-then-turns-clause-limited
returns-then-turns-clause-limited g c = turns_are_limited g.W.CountedWrite.left _ _ _ (c.if-turns.ensures.takes refl)

pub returns-clause-bounded : goal.returns-clause-bounded
returns-clause-bounded g c = kept_reserve g.W.CountedWrite.left _ _ refl (c.if-turns.ensures.kept refl)

pub returns-clause-limited : goal.returns-clause-limited
returns-clause-limited g c = kept_limited g.W.CountedWrite.left _ _ (c.if-turns.ensures.kept refl)
