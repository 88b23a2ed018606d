use Rattle.std.proofs.Common.{◌++◌, ◌∙◌}
use Rattle.std.proofs.lemmas.Result.{err_from_is_err_and}
use Rattle.liquid_site.proofs.Disks.{already, is_needed, no_more, none_if_err, nothing, put_kept, put_same, put_there, stays, stays_needed}
use Rattle.liquid_site.proofs.written.write_page.Goals as goal

pub returns-in_err-path-clause-written : goal.returns-in_err-path-clause-written
returns-in_err-path-clause-written g c = no_more _ _ _ _ (err_from_is_err_and c.from_residual.result c.from_residual.ensures.1).1

pub returns-in_err-path-clause-needed : goal.returns-in_err-path-clause-needed
returns-in_err-path-clause-needed g c = none_if_err _ _ _ _ (err_from_is_err_and c.from_residual.result c.from_residual.ensures.1).1

pub returns-in_err-path-clause-kept : goal.returns-in_err-path-clause-kept
returns-in_err-path-clause-kept g c = stays _ _

pub returns-in_err-holds-clause-written : goal.returns-in_err-holds-clause-written
returns-in_err-holds-clause-written g c = no_more _ _ _ _ (err_from_is_err_and c.from_residual-in_err-holds.result c.from_residual-in_err-holds.ensures.1).1

pub returns-in_err-holds-clause-needed : goal.returns-in_err-holds-clause-needed
returns-in_err-holds-clause-needed g c = none_if_err _ _ _ _ (err_from_is_err_and c.from_residual-in_err-holds.result c.from_residual-in_err-holds.ensures.1).1

pub returns-in_err-holds-clause-kept : goal.returns-in_err-holds-clause-kept
returns-in_err-holds-clause-kept g c = stays _ _

pub returns-then-branch-clause-written : goal.returns-then-branch-clause-written
returns-then-branch-clause-written g c = already _ (c.args.out.now ++ c.args.name.now) c.as_str.result.now c.args.text.now _ (c.as_str.ensures.value ∙ c.in_ok-path.ensures) c.in_ok-holds.ensures.held c.if-branch.true

pub returns-then-branch-clause-kept : goal.returns-then-branch-clause-kept
returns-then-branch-clause-kept g c = nothing _

pub returns-in-Ok-clause-written : goal.returns-in-Ok-clause-written
returns-in-Ok-clause-written g c = put_there _ _ (c.args.out.now ++ c.args.name.now) c.as_str-2.result.now c.args.text.now c.write.result c.in-Ok.field-0 (c.as_str-2.ensures.value ∙ c.in_ok-path.ensures) c.in-Ok.is c.write.ensures

pub returns-in-Ok-clause-needed : goal.returns-in-Ok-clause-needed
returns-in-Ok-clause-needed g c = is_needed _ (c.args.out.now ++ c.args.name.now) c.as_str.result.now c.args.text.now _ (c.as_str.ensures.value ∙ c.in_ok-path.ensures) c.in_ok-holds.ensures.held c.if-branch.false

pub returns-in-Ok-clause-kept : goal.returns-in-Ok-clause-kept
returns-in-Ok-clause-kept g c = nothing _

pub returns-in-Err-Memory-clause-kept : goal.returns-in-Err-Memory-clause-kept
returns-in-Err-Memory-clause-kept g c = put_same _ _ c.as_str-2.result.now c.args.text.now c.write.result _ c.in-Err-Memory.is c.write.ensures

pub returns-in-Err-Memory-clause-unwritten : goal.returns-in-Err-Memory-clause-unwritten
returns-in-Err-Memory-clause-unwritten g c = stays_needed _ (c.args.out.now ++ c.args.name.now) c.as_str.result.now c.args.text.now _ c.from.result (c.as_str.ensures.value ∙ c.in_ok-path.ensures) c.in_ok-holds.ensures.held c.if-branch.false

pub returns-in_err-unwritten-in-Err-clause-kept : goal.returns-in_err-unwritten-in-Err-clause-kept
returns-in_err-unwritten-in-Err-clause-kept g c = put_kept _ _ c.as_str-2.result.now c.args.text.now c.write.result _ _ c.in-Err.is c.write.ensures

pub returns-clause-kept : goal.returns-clause-kept
returns-clause-kept g c = put_same _ _ c.as_str-2.result.now c.args.text.now c.write.result _ c.in-Err.is c.write.ensures

pub returns-clause-unwritten : goal.returns-clause-unwritten
returns-clause-unwritten g c = stays_needed _ (c.args.out.now ++ c.args.name.now) c.as_str.result.now c.args.text.now _ c.in_ok-unwritten-in-Err.field-0 (c.as_str.ensures.value ∙ c.in_ok-path.ensures) c.in_ok-holds.ensures.held c.if-branch.false
