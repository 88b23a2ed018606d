use Rattle.liquid_warnings.proofs.AddedRemarks.{adds_no_more, adds_one}
use Rattle.liquid_warnings.specs.Sorts.{IsQuotedName}
use Rattle.liquid_warnings.proofs.text_tests.add_quoted_names.Goals as goal

pub loop-name-init : goal.loop-name-init
loop-name-init c = adds_no_more IsQuotedName _

pub loop-name-preserved : goal.loop-name-preserved
loop-name-preserved c = adds_one IsQuotedName _ _ _ _ c.loop-name.invariant c.in_ok-push.ensures.items c.in_ok-quoted_name.ensures
