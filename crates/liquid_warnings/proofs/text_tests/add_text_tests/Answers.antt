use Rattle.liquid_warnings.proofs.AddedRemarks.{adds_no_more, adds_one}
use Rattle.liquid_warnings.specs.Sorts.{IsTextTest}
use Rattle.liquid_warnings.proofs.text_tests.add_text_tests.Goals as goal

pub loop-test-init : goal.loop-test-init
loop-test-init c = adds_no_more IsTextTest _

pub loop-test-preserved : goal.loop-test-preserved
loop-test-preserved c = adds_one IsTextTest _ _ _ _ c.loop-test.invariant c.in_ok-push.ensures.items c.in_ok-text_test.ensures
