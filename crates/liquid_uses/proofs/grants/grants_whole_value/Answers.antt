use Rattle.std.proofs.Common.{sym, ◌∙◌}
use Rattle.liquid_model.specs.Uses.{everything}
use Rattle.liquid_uses.proofs.grants.grants_whole_value.Goals as goal

pub returns : goal.returns
returns c = λ h. c.reached.ensures everything (sym c.is_whole.ensures ∙ h)
