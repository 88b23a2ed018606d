use Rattle.liquid_uses.specs.inside.Chains.{takes}
use Rattle.liquid_uses.proofs.Chains.{never, takes_itself}
use Rattle.liquid_uses.proofs.place_pairs.Pair.items_or_itself.Goals as goal

pub returns-then-self : goal.returns-then-self
returns-then-self c = λ u asks h. never (takes c.refused.result u) (c.refused.ensures u) h _

pub returns-in-Whole : goal.returns-in-Whole
returns-in-Whole c = λ u asks h. takes_itself c.args.self c.args.self.first c.each-second.result u c.if-self.false c.in-Whole.is asks (c.each-second.ensures u) h

pub returns-in_default : goal.returns-in_default
returns-in_default c = λ u asks h. never (takes c.refused-in_default.result u) (c.refused-in_default.ensures u) h _
