use Rattle.std.proofs.Common.{sym, ◌∙◌}
use Rattle.liquid_model.specs.Uses.{there}
use Rattle.liquid_uses.proofs.grants.present.Goals as goal

pub returns : goal.returns
returns c = λ h. c.reached.ensures there (sym c.is_present.ensures ∙ h)
