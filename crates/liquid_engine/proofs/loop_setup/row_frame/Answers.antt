use Rattle.std.proofs.Common.{◌<◌, Ok, IsOk, Some, sym, ap, ◌∙◌, option_map, arith, rules}
use Rattle.std.proofs.lemmas.Result.{err_from_is_err_and}
use Rattle.liquid_core.specs.ExpressionView.{expression_view}
use Rattle.liquid_core.specs.States.{environment_of}
use Rattle.liquid_evaluation.specs.Evaluation.{amount}
use Rattle.liquid_evaluation.specs.ItemLists.{all_items}
use Rattle.liquid_evaluation.specs.SourceView.{source_view}
use Rattle.liquid_syntax.specs.Flats.{window_view}
use Rattle.liquid_engine.proofs.LoopItems.{row_cells, row_faulted, rows_window_next, turn_list}
use Rattle.liquid_engine.proofs.loop_setup.row_frame.Goals as goal

pub returns-in_err-window-clause-items : goal.returns-in_err-window-clause-items
returns-in_err-window-clause-items c =
    let p = err_from_is_err_and c.from_residual-in_err-window.result c.from_residual-in_err-window.ensures.1 in
    let all = all_items c.in_ok-all.all.items in
    let columns = option_map expression_view c.args.head.now.cols in
    let e = environment_of c.args.state.now in
    let some : IsOk (amount columns e) = search rules in
    rw (p.1, p.2) (rows_window_next (source_view c.args.head.now.source) (window_view c.args.head.now.window) columns e all c.in_err-window.field-0.0.kind
    c.in_ok-all.ensures.items some (c.in_err-window.ensures.items all (sym c.in_ok-all.ensures.count)))

pub returns-in_err-columns-clause-items : goal.returns-in_err-columns-clause-items
returns-in_err-columns-clause-items c =
    let p = err_from_is_err_and c.from_residual-in_err-columns.result c.from_residual-in_err-columns.ensures.1 in
    let all = all_items c.in_ok-all.all.items in
    let w = c.in_ok-window.window in
    let some : 0 < w.count = omega (arith, c.if-window-eq0.false) in
    rw (p.1, p.2) (row_faulted (source_view c.args.head.now.source) (window_view c.args.head.now.window) (option_map expression_view c.args.head.now.cols) (environment_of c.args.state.now) all c.in_ok-asked.asked w.from w.count
    c.in_ok-all.ensures.items c.in_ok-asked.ensures (c.in_ok-window.ensures.items all (sym c.in_ok-all.ensures.count)) c.in_err-columns.field-0.0.kind some c.in_err-columns.ensures)

pub returns-clause-items : goal.returns-clause-items
returns-clause-items c =
    let all = all_items c.in_ok-all.all.items in
    let w = c.in_ok-window.window in
    let some : 0 < w.count = omega (arith, c.if-window-eq0.false) in
    row_cells (source_view c.args.head.now.source) (window_view c.args.head.now.window) (option_map expression_view c.args.head.now.cols) (environment_of c.args.state.now) all c.in_ok-asked.asked w.from w.count
    c.in_ok-all.ensures.items c.in_ok-asked.ensures (c.in_ok-window.ensures.items all (sym c.in_ok-all.ensures.count)) c.in_ok-columns.columns.count some c.in_ok-columns.ensures
    ∙ ap (λ l. Ok (Some (l, c.in_ok-columns.columns.count))) (turn_list c.in_ok-all.all.items w.from w.count c.args.head.now.window.reversed)
