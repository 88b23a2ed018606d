use Rattle.std.proofs.lemmas.Result.{err_from_is_err_and}
use Rattle.liquid_core.specs.States.{environment_of}
use Rattle.liquid_syntax.specs.Flats.{window_view}
use Rattle.liquid_engine.proofs.LoopItems.{asked_placed, limit_faulted, offset_faulted}
use Rattle.liquid_engine.proofs.loop_setup.evaluate_window.Goals as goal

pub returns-in_err-limit-clause-items : goal.returns-in_err-limit-clause-items
returns-in_err-limit-clause-items c ds long =
    let p = err_from_is_err_and c.from_residual.result c.from_residual.ensures.1 in
    rw (p.1, p.2) (limit_faulted (window_view c.args.asked.now) ds (environment_of c.args.state.now) c.in_err-limit.field-0.0.kind c.in_err-limit.ensures)

pub returns-in_err-offset-clause-items : goal.returns-in_err-offset-clause-items
returns-in_err-offset-clause-items c ds long =
    let p = err_from_is_err_and c.from_residual-in_err-offset.result c.from_residual-in_err-offset.ensures.1 in
    rw (p.1, p.2) (offset_faulted (window_view c.args.asked.now) ds (environment_of c.args.state.now) c.in_ok-limit.limit c.in_err-offset.field-0.0.kind c.in_ok-limit.ensures c.in_err-offset.ensures)

pub returns-clause-items : goal.returns-clause-items
returns-clause-items c ds long =
    asked_placed (window_view c.args.asked.now) ds (environment_of c.args.state.now) c.in_ok-limit.limit c.in_ok-offset.offset c.args.total c.new.result.from c.new.result.count long c.in_ok-limit.ensures c.in_ok-offset.ensures c.new.ensures.from c.new.ensures.count
