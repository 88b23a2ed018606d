use Rattle.std.proofs.Common.{◌++◌, Ok}
use Rattle.std.specs.Prelude.{decimal}
use Rattle.std.proofs.lemmas.Result.{err_from_is_err_and}
use Rattle.liquid_engine.proofs.Pieces.{writes_as, writes_stop, writes_then}
use Rattle.liquid_engine.proofs.Reserves.{less_then}
use Rattle.liquid_engine.proofs.push_value.push_numbered.Goals as goal

pub returns-in_err-push_text-clause-writes : goal.returns-in_err-push_text-clause-writes
returns-in_err-push_text-clause-writes g c =
    let p = err_from_is_err_and c.from_residual.result c.from_residual.ensures.1 in
    rw (p.1, p.2) (writes_stop c.in_err-push_text.field-0.0 c.args.before.now (decimal c.args.number ++ c.args.after.now) _ _ c.in_err-push_text.ensures.writes)

pub returns-in_err-push_text-2-clause-writes : goal.returns-in_err-push_text-2-clause-writes
returns-in_err-push_text-2-clause-writes g c =
    let p = err_from_is_err_and c.from_residual-in_err-push_text-2.result c.from_residual-in_err-push_text-2.ensures.1 in
    let e = c.in_err-push_text-2.field-0.0 in
    rw (p.1, p.2) (writes_then c.in_ok-push_text.field-0 _ c.args.before.now (decimal c.args.number ++ c.args.after.now) _ _ _ c.in_ok-push_text.ensures.writes
    (writes_stop e (decimal c.args.number) c.args.after.now _ _ (writes_as _ _ _ _ _ c.format.ensures.text c.in_err-push_text-2.ensures.writes)))

pub returns-clause-writes : goal.returns-clause-writes
returns-clause-writes g c =
    writes_then c.in_ok-push_text.field-0 c.push_text-3.result c.args.before.now (decimal c.args.number ++ c.args.after.now) _ _ _ c.in_ok-push_text.ensures.writes
    (writes_then c.in_ok-push_text-2.field-0 c.push_text-3.result (decimal c.args.number) c.args.after.now _ _ _ (writes_as (Ok c.in_ok-push_text-2.field-0) _ _ _ _ c.format.ensures.text c.in_ok-push_text-2.ensures.writes) c.push_text-3.ensures.writes)

pub returns-in_err-push_text-clause-bounded : goal.returns-in_err-push_text-clause-bounded
returns-in_err-push_text-clause-bounded g c = c.push_text.ensures.bounded

pub returns-in_err-push_text-2-clause-bounded : goal.returns-in_err-push_text-2-clause-bounded
returns-in_err-push_text-2-clause-bounded g c = less_then c.push_text-2.ensures.bounded c.push_text.ensures.bounded

pub returns-clause-bounded : goal.returns-clause-bounded
returns-clause-bounded g c = less_then c.push_text-3.ensures.bounded (less_then c.push_text-2.ensures.bounded c.push_text.ensures.bounded)
