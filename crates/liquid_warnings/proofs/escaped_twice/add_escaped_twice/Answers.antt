use Rattle.liquid_warnings.proofs.AddedRemarks.{adds_no_more, adds_one}
use Rattle.liquid_warnings.specs.Sorts.{IsEscapedTwice}
use Rattle.liquid_warnings.proofs.escaped_twice.add_escaped_twice.Goals as goal

pub loop-name-init : goal.loop-name-init
loop-name-init c = adds_no_more IsEscapedTwice _

pub loop-name-preserved : goal.loop-name-preserved
loop-name-preserved c = adds_one IsEscapedTwice _ _ _ _ c.loop-name.invariant c.in_ok-push.ensures.items c.in_ok-escaped_twice.ensures
