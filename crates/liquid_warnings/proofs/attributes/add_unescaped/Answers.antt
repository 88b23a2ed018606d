use Rattle.std.proofs.Common.{codes, rules}
use Rattle.std.proofs.lemmas.Result.{on_ok_weaker}
use Rattle.liquid_warnings.specs.Messages.{unescaped_message}
use Rattle.liquid_warnings.proofs.AddedRemarks.{adds_at_each, adds_where}
use Rattle.liquid_warnings.proofs.attributes.add_unescaped.Goals as goal

pub returns-clause-added : goal.returns-clause-added
returns-clause-added c = on_ok_weaker c.add_at_each.result
    (λ grown. adds_where _ _ _ _ (search rules) (adds_at_each (codes "UnescapedAttribute") unescaped_message _ _ _ grown)) c.add_at_each.ensures.added
