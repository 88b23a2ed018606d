use Rattle.std.proofs.Common.{◌≡◌, true, cond, sym, ◌∙◌}
use mathlib.Core.Path.{subst}
use Rattle.liquid_model.specs.Uses.{nothing}
use Rattle.liquid_model.specs.UseViews.{use_view}
use Rattle.liquid_uses.specs.inside.Chains.{takes}
use Rattle.liquid_uses.proofs.place_pairs.Pair.takes_place.Goals as goal

pub returns-then-is_place : goal.returns-then-is_place
returns-then-is_place c = λ h. subst (λ b. takes c.args.self (cond b (use_view c.args.asked.now) nothing) ≡ true) (sym (sym c.is_place.ensures ∙ c.if-is_place.true)) (c.takes.ensures h)

pub returns-else-is_place : goal.returns-else-is_place
returns-else-is_place c = λ h. subst (λ b. takes c.args.self (cond b (use_view c.args.asked.now) nothing) ≡ true) (sym (sym c.is_place.ensures ∙ c.if-is_place.false)) (c.is_open.ensures h)
