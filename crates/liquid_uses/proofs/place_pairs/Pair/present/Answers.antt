use Rattle.liquid_uses.proofs.Chains.{takes_present}
use Rattle.liquid_uses.proofs.place_pairs.Pair.present.Goals as goal

pub returns : goal.returns
returns c = λ u h. takes_present c.args.self c.if_present-first.result c.if_present-second.result u (c.if_present-first.ensures u) (c.if_present-second.ensures u) h
