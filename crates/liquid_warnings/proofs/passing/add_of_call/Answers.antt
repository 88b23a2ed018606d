use Rattle.liquid_warnings.proofs.AddedRemarks.{adds_found, adds_no_more}
use Rattle.liquid_warnings.specs.Sorts.{IsUnusedPair}
use Rattle.liquid_warnings.proofs.passing.add_of_call.Goals as goal

pub loop-pair-init : goal.loop-pair-init
loop-pair-init c = adds_no_more IsUnusedPair _

pub loop-pair-preserved : goal.loop-pair-preserved
loop-pair-preserved c = adds_found IsUnusedPair _ _ _ _ c.loop-pair.invariant c.in_ok-push_found.ensures c.in_ok-unused_pair.ensures
