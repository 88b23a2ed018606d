use Rattle.std.proofs.Common.{sym, ◌∙◌}
use Rattle.liquid_syntax.specs.NameSets.{mentioned_in_set}
use Rattle.liquid_uses.proofs.scopes.Scopes.is_kept.Goals as goal

pub returns : goal.returns
unfolding mentioned_in_set
returns c = λ e. sym c.contains.ensures ∙ e
