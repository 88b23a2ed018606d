use Rattle.std.proofs.Common.{not, sym, ◌∙◌}
use Rattle.liquid_model.specs.UseViews.{use_view}
use Rattle.liquid_uses.specs.inside.Chains.{is_plain}
use Rattle.liquid_uses.proofs.Chains.{not_refl, or_true}
use Rattle.liquid_uses.proofs.place_pairs.Pair.allows.Goals as goal

pub returns-then-self : goal.returns-then-self
returns-then-self c = λ h. or_true (not c.args.self.plain) (is_plain (use_view c.args.asked.now)) (sym c.is_plain.ensures ∙ h)

pub returns-else-self : goal.returns-else-self
returns-else-self c = λ h. not_refl c.args.self.plain c.if-self.false (is_plain (use_view c.args.asked.now))
