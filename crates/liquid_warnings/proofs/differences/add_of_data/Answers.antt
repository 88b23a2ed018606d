use Rattle.std.proofs.lemmas.Result.{on_ok_weaker}
use Rattle.liquid_warnings.proofs.AddedRemarks.{adds_then}
use Rattle.liquid_warnings.proofs.differences.add_of_data.Goals as goal

pub returns-clause-added : goal.returns-clause-added
returns-clause-added c = on_ok_weaker c.add_of_ruby.result (λ more. adds_then _ _ _ _ _ c.in_ok-add_doubts.ensures.added more) c.add_of_ruby.ensures.added
