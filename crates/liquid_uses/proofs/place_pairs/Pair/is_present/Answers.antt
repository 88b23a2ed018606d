use Rattle.std.proofs.Common.{refl, sym, ◌∙◌}
use Rattle.liquid_model.specs.Uses.{there}
use Rattle.liquid_uses.proofs.Chains.{takes_plain}
use Rattle.liquid_uses.proofs.place_pairs.Pair.is_present.Goals as goal

pub returns-then-first : goal.returns-then-first
returns-then-first c = λ h. takes_plain c.args.self there refl (sym c.is_present-first.ensures ∙ c.if-first.true) (sym c.is_present-second.ensures ∙ h)
