use Rattle.std.proofs.Common.{not, sym, ap, ◌∙◌}
use Rattle.liquid_model.specs.Uses.{is_place}
use Rattle.liquid_uses.proofs.Chains.{not_refl, or_true}
use Rattle.liquid_uses.proofs.place_pairs.Pair.allows_key.Goals as goal

pub returns-then-self : goal.returns-then-self
returns-then-self c = λ h. or_true (not c.args.self.plain) (not (is_place c.args.key.now)) (ap not (sym c.is_place.ensures) ∙ h)

pub returns-else-self : goal.returns-else-self
returns-else-self c = λ h. not_refl c.args.self.plain c.if-self.false (not (is_place c.args.key.now))
