use Rattle.std.proofs.Common.{◌+◌, ◌==◌, ◌++◌, [], codes}
use Rattle.std.specs.Prelude.{◌/◌, ◌%◌, decimal, if◌then◌else◌}
use Rattle.std.proofs.lemmas.Result.{err_from_is_err_and}
use Rattle.liquid_engine.proofs.Pieces.{writes_stop, writes_then}
use Rattle.liquid_engine.proofs.Reserves.{less_then}
use Rattle.liquid_engine.proofs.blocks.tablerow_block.Row.open.Goals as goal

pub returns-in_err-open_row-clause-writes : goal.returns-in_err-open_row-clause-writes
returns-in_err-open_row-clause-writes g c =
    let p = err_from_is_err_and c.from_residual.result c.from_residual.ensures.1 in
    let columns = c.args.self.columns.count in
    let row = if c.args.place % columns == 0 then codes "<tr class=\"row" ++ (decimal (c.args.place / columns + 1) ++ codes "\">") else [] in
    rw (p.1, p.2) (writes_stop c.in_err-open_row.field-0.0 row (codes "<td class=\"col" ++ (decimal (c.args.place % columns + 1) ++ codes "\">")) _ _ c.in_err-open_row.ensures.writes)

pub returns-clause-writes : goal.returns-clause-writes
returns-clause-writes g c =
    let columns = c.args.self.columns.count in
    let row = if c.args.place % columns == 0 then codes "<tr class=\"row" ++ (decimal (c.args.place / columns + 1) ++ codes "\">") else [] in
    writes_then c.in_ok-open_row.field-0 c.push_numbered.result row (codes "<td class=\"col" ++ (decimal (c.args.place % columns + 1) ++ codes "\">")) _ _ _ c.in_ok-open_row.ensures.writes c.push_numbered.ensures.writes

pub returns-in_err-open_row-clause-bounded : goal.returns-in_err-open_row-clause-bounded
returns-in_err-open_row-clause-bounded g c = c.open_row.ensures.bounded

pub returns-clause-bounded : goal.returns-clause-bounded
returns-clause-bounded g c = less_then c.push_numbered.ensures.bounded c.open_row.ensures.bounded
