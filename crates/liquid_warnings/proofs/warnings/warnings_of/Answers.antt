use Rattle.liquid_warnings.proofs.FileWarnings.{all_warned, one_more}
use Rattle.liquid_warnings.proofs.warnings.warnings_of.Goals as goal

pub loop-file-preserved : goal.loop-file-preserved
loop-file-preserved c = one_more _ _ _ _ _ _ _ c.loop-file.invariant c.in_ok-remarks.ensures.warned c.in_ok-add_list.ensures c.file-item.is c.loop-file-test.true

pub returns-clause-warned : goal.returns-clause-warned
returns-clause-warned c = all_warned _ _ _ _ c.loop-file.invariant c.loop-file-test.false
