use Rattle.liquid_uses.specs.inside.Chains.{takes}
use Rattle.liquid_uses.proofs.Chains.{never, takes_items}
use Rattle.liquid_uses.proofs.place_pairs.Pair.items.Goals as goal

pub returns-then-self : goal.returns-then-self
returns-then-self c = λ u h. never (takes c.refused.result u) (c.refused.ensures u) h _

pub returns : goal.returns
returns c = λ u h. takes_items c.args.self c.each-first.result c.each-second.result u c.if-self.false (c.each-first.ensures u) (c.each-second.ensures u) h
