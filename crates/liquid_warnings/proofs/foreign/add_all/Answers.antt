use Rattle.liquid_warnings.proofs.AddedRemarks.{adds_no_more, adds_one}
use Rattle.liquid_warnings.specs.Sorts.{IsForeign}
use Rattle.liquid_warnings.proofs.foreign.add_all.Goals as goal

pub loop-placeholder-init : goal.loop-placeholder-init
loop-placeholder-init c = adds_no_more IsForeign _

pub loop-placeholder-preserved : goal.loop-placeholder-preserved
loop-placeholder-preserved c = adds_one IsForeign _ _ _ _ c.loop-placeholder.invariant c.in_ok-push.ensures.items c.in_ok-foreign_output.ensures
