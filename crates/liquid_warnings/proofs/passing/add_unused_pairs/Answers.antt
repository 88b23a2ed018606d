use Rattle.liquid_warnings.proofs.AddedRemarks.{adds_no_more, adds_all_more}
use Rattle.liquid_warnings.specs.Sorts.{IsUnusedPair}
use Rattle.liquid_warnings.proofs.passing.add_unused_pairs.Goals as goal

pub loop-call-init : goal.loop-call-init
loop-call-init c = adds_no_more IsUnusedPair _

pub loop-call-preserved : goal.loop-call-preserved
loop-call-preserved c = adds_all_more IsUnusedPair _ _ _ c.loop-call.invariant c.in_ok-add_of_call.ensures
