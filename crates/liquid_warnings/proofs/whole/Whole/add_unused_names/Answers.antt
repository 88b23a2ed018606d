use Rattle.liquid_warnings.proofs.AddedRemarks.{adds_found, adds_no_more}
use Rattle.liquid_warnings.specs.Sorts.{IsUnusedName}
use Rattle.liquid_warnings.proofs.whole.Whole.add_unused_names.Goals as goal

pub loop-name-init : goal.loop-name-init
loop-name-init c = adds_no_more IsUnusedName _

pub loop-name-preserved : goal.loop-name-preserved
loop-name-preserved c = adds_found IsUnusedName _ _ _ _ c.loop-name.invariant c.in_ok-push_found.ensures c.in_ok-unused_name.ensures
