use Rattle.std.proofs.Common.{sym, ◌∙◌}
use Rattle.liquid_core.specs.Expression.{no_steps}
use Rattle.liquid_model.specs.Uses.{nothing}
use Rattle.liquid_uses.proofs.Chains.{gives_member}
use Rattle.liquid_uses.proofs.Steps.{along_none}
use Rattle.liquid_uses.proofs.places.Place.member.Goals as goal

pub returns-then-is_present : goal.returns-then-is_present
returns-then-is_present c = λ u h.
    gives_member (λ name. nothing) c.args.key.now u c.args.self (sym c.is_present.ensures ∙ c.if-is_present.true) (c.at.ensures (λ name. nothing) no_steps u (along_none (λ name. nothing) c.at.result u h))
