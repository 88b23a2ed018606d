use Rattle.liquid_warnings.proofs.AddedRemarks.{adds_found, adds_no_more, kept_found}
use Rattle.liquid_warnings.specs.Sorts.{IsDoubt}
use Rattle.liquid_warnings.proofs.doubts.add_doubts.Goals as goal

pub loop-asked-init : goal.loop-asked-init
loop-asked-init c = adds_no_more IsDoubt _

pub loop-asked-preserved : goal.loop-asked-preserved
loop-asked-preserved c =
    adds_found IsDoubt _ _ _ _ c.loop-asked.invariant c.in_ok-push_found.ensures (kept_found IsDoubt _ _ c.in_ok-found.ensures c.in_ok-unless_seen.ensures)
