use Rattle.liquid_warnings.proofs.AddedRemarks.{adds_found, adds_no_more, kept_found}
use Rattle.liquid_warnings.proofs.RubyDifferences.{is_difference}
use Rattle.liquid_warnings.specs.Differences.{IsOfRuby}
use Rattle.liquid_warnings.proofs.differences.add_differences.Goals as goal

pub loop-asked-init : goal.loop-asked-init
loop-asked-init c = adds_no_more IsOfRuby _

pub loop-asked-preserved : goal.loop-asked-preserved
loop-asked-preserved c =
    adds_found IsOfRuby _ _ _ _ c.loop-asked.invariant c.in_ok-push_found.ensures
    (kept_found IsOfRuby _ _ (is_difference _ _ _ _ c.in_ok-found.ensures) c.in_ok-unless_seen.ensures)
