use Rattle.std.proofs.lemmas.Result.{err_from_is_err_and}
use Rattle.liquid_engine.proofs.Turns.{memory_cut}
use Rattle.liquid_engine.proofs.room_ahead.room_ahead.Goals as goal

pub returns-in_err-bytes-clause-refused : goal.returns-in_err-bytes-clause-refused
returns-in_err-bytes-clause-refused g c =
    let p = err_from_is_err_and c.from_residual.result c.from_residual.ensures.1 in
    rw (p.1, p.2) (memory_cut c.in_err-bytes.field-0.0 _ c.in_err-bytes.ensures.memory)
