use Rattle.liquid_warnings.proofs.AddedRemarks.{adds_found, adds_no_more}
use Rattle.liquid_warnings.specs.Sorts.{IsNotGiven}
use Rattle.liquid_warnings.proofs.passing.add_not_given.Goals as goal

pub loop-name-init : goal.loop-name-init
loop-name-init c = adds_no_more IsNotGiven _

pub loop-name-preserved : goal.loop-name-preserved
loop-name-preserved c = adds_found IsNotGiven _ _ _ _ c.loop-name.invariant c.in_ok-push_found.ensures c.in_ok-not_given_if.ensures
