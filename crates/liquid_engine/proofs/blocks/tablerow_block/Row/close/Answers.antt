use Rattle.std.proofs.Common.{◌++◌, Ok, [], Bool, codes, subst}
use Rattle.std.specs.Prelude.{if◌then◌else◌}
use Rattle.std.proofs.lemmas.Result.{err_from_is_err_and}
use Rattle.liquid_core.specs.Loops.{is_last_column}
use Rattle.liquid_engine.specs.Performs.{WritesText}
use Rattle.liquid_engine.specs.Sinks.{sink_of}
use Rattle.liquid_engine.proofs.Pieces.{writes_nothing, writes_stop, writes_then}
use Rattle.liquid_engine.proofs.Reserves.{less_then}
use Rattle.liquid_engine.proofs.blocks.tablerow_block.Row.close.Goals as goal

pub returns-in_err-push_text-clause-writes : goal.returns-in_err-push_text-clause-writes
returns-in_err-push_text-clause-writes g c =
    let p = err_from_is_err_and c.from_residual.result c.from_residual.ensures.1 in
    rw (p.1, p.2) (writes_stop c.in_err-push_text.field-0.0 (codes "</td>") (if is_last_column c.args.place c.args.self.count c.args.self.columns.count then codes "</tr>" else []) _ _ c.in_err-push_text.ensures.writes)

pub returns-then-ends_row-clause-writes : goal.returns-then-ends_row-clause-writes
returns-then-ends_row-clause-writes g c =
    let sink = sink_of g.W.CountedWrite.contents g.W.CountedWrite.failure_count in
    subst (λ (last : Bool). WritesText c.push_text-then-ends_row.result (codes "</td>" ++ (if last then codes "</tr>" else [])) (sink c.args.out.now) (sink c.push_text-then-ends_row.new.self)) c.if-ends_row.ensures
    (writes_then c.in_ok-push_text.field-0 c.push_text-then-ends_row.result (codes "</td>") (codes "</tr>") _ _ _ c.in_ok-push_text.ensures.writes c.push_text-then-ends_row.ensures.writes)

pub returns-clause-writes : goal.returns-clause-writes
returns-clause-writes g c =
    let sink = sink_of g.W.CountedWrite.contents g.W.CountedWrite.failure_count in
    subst (λ (last : Bool). WritesText (Ok tt) (codes "</td>" ++ (if last then codes "</tr>" else [])) (sink c.args.out.now) (sink c.push_text.new.self)) c.if-ends_row.ensures
    (writes_then c.in_ok-push_text.field-0 (Ok tt) (codes "</td>") [] _ _ _ c.in_ok-push_text.ensures.writes (writes_nothing tt (sink c.push_text.new.self)))

pub returns-in_err-push_text-clause-bounded : goal.returns-in_err-push_text-clause-bounded
returns-in_err-push_text-clause-bounded g c = c.push_text.ensures.bounded

pub returns-then-ends_row-clause-bounded : goal.returns-then-ends_row-clause-bounded
returns-then-ends_row-clause-bounded g c = less_then c.push_text-then-ends_row.ensures.bounded c.push_text.ensures.bounded

pub returns-clause-bounded : goal.returns-clause-bounded
returns-clause-bounded g c = c.push_text.ensures.bounded
