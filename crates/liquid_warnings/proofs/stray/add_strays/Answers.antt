use Rattle.liquid_warnings.proofs.AddedRemarks.{adds_no_more, adds_one}
use Rattle.liquid_warnings.specs.Sorts.{IsStray}
use Rattle.liquid_warnings.proofs.stray.add_strays.Goals as goal

pub loop-stray-init : goal.loop-stray-init
loop-stray-init c = adds_no_more IsStray _

pub loop-stray-preserved : goal.loop-stray-preserved
loop-stray-preserved c = adds_one IsStray _ _ _ _ c.loop-stray.invariant c.in_ok-push.ensures.items c.in_ok-stray_break.ensures
