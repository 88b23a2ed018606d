use Rattle.liquid_warnings.proofs.AddedRemarks.{adds_found, adds_no_more}
use Rattle.liquid_warnings.specs.Sorts.{IsRecursive}
use Rattle.liquid_warnings.proofs.whole.Whole.add_recursive.Goals as goal

pub loop-number-init : goal.loop-number-init
loop-number-init c = adds_no_more IsRecursive _

pub loop-number-preserved : goal.loop-number-preserved
loop-number-preserved c = adds_found IsRecursive _ _ _ _ c.loop-number.invariant c.in_ok-push_found.ensures c.in_ok-recursive_call.ensures
