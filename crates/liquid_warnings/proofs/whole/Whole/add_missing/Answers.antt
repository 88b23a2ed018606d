use Rattle.liquid_warnings.proofs.AddedRemarks.{adds_found, adds_no_more}
use Rattle.liquid_warnings.specs.Sorts.{IsMissingPartial}
use Rattle.liquid_warnings.proofs.whole.Whole.add_missing.Goals as goal

pub loop-call-init : goal.loop-call-init
loop-call-init c = adds_no_more IsMissingPartial _

pub loop-call-preserved : goal.loop-call-preserved
loop-call-preserved c = adds_found IsMissingPartial _ _ _ _ c.loop-call.invariant c.in_ok-push_found.ensures c.in_ok-missing_partial.ensures
