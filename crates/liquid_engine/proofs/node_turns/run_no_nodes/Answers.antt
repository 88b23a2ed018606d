use Rattle.std.proofs.Common.{inl, inr, refl}
use Rattle.std.proofs.lemmas.Result.{err_from_is_err_and}
use Rattle.liquid_engine.proofs.Turns.{nothing_done, nothing_refused}
use Rattle.liquid_engine.proofs.node_turns.run_no_nodes.Goals as goal

pub returns-in_err-turns-clause-writes : goal.returns-in_err-turns-clause-writes
returns-in_err-turns-clause-writes g c =
    let p = err_from_is_err_and c.from_residual.result c.from_residual.ensures.1 in
    rw (p.1, p.2) (nothing_refused c.in_err-turns.field-0.0 _ _ c.in_err-turns.ensures.refused)

pub returns-in_err-turns-clause-stopped : goal.returns-in_err-turns-clause-stopped
returns-in_err-turns-clause-stopped g c = inr c.in_err-turns.ensures.stopped

pub returns-clause-writes : goal.returns-clause-writes
returns-clause-writes g c = nothing_done _ _ c.in_ok-turns.ensures.goes_on

pub returns-clause-stopped : goal.returns-clause-stopped
returns-clause-stopped g c = inl refl
