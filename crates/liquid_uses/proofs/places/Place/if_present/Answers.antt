use Rattle.std.proofs.Common.{sym, ◌∙◌}
use Rattle.liquid_uses.proofs.Chains.{gives_present}
use Rattle.liquid_uses.proofs.places.Place.if_present.Goals as goal

pub returns-then-is_present : goal.returns-then-is_present
returns-then-is_present c = λ u h. gives_present u c.args.self (sym c.is_present.ensures ∙ c.if-is_present.true) h
