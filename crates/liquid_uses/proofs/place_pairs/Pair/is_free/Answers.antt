use Rattle.liquid_uses.proofs.Chains.{takes_free}
use Rattle.liquid_uses.proofs.place_pairs.Pair.is_free.Goals as goal

pub returns-else-self : goal.returns-else-self
returns-else-self c = λ u h. takes_free c.args.self u c.if-self.false (c.is_whole.ensures h)
