use Rattle.std.proofs.Common.{◌++◌, codes, Err}
use Rattle.std.proofs.lemmas.Result.{err_from_is_err_and}
use Rattle.liquid_model.proofs.Appending.{appended_then, appended_stop}
use Rattle.liquid_core.proofs.append_written.append_quoted.Goals as goal

pub returns-in_err-append_str : goal.returns-in_err-append_str
returns-in_err-append_str c =
    let p = err_from_is_err_and c.from_residual.result c.from_residual.ensures.1 in
    rw (p.1, p.2) (appended_stop c.in_err-append_str.field-0.0 _ _ (codes "\"") (c.args.text.now ++ codes "\"") c.in_err-append_str.ensures)

pub returns-in_err-append_str-2 : goal.returns-in_err-append_str-2
returns-in_err-append_str-2 c =
    let p = err_from_is_err_and c.from_residual-in_err-append_str-2.result c.from_residual-in_err-append_str-2.ensures.1 in
    let e = c.in_err-append_str-2.field-0.0 in
    rw (p.1, p.2) (appended_then {X = Unit {0}} (Err e) _ _ _ (codes "\"") (c.args.text.now ++ codes "\"") c.in_ok-append_str.ensures
    (appended_stop e _ _ c.args.text.now (codes "\"") c.in_err-append_str-2.ensures))

pub returns : goal.returns
returns c =
    appended_then c.append_str-3.result _ _ _ (codes "\"") (c.args.text.now ++ codes "\"") c.in_ok-append_str.ensures
    (appended_then c.append_str-3.result _ _ _ c.args.text.now (codes "\"") c.in_ok-append_str-2.ensures c.append_str-3.ensures)
