use Rattle.liquid_uses.proofs.Chains.{takes_plainly}
use Rattle.liquid_uses.proofs.place_pairs.Pair.plainly.Goals as goal

pub returns : goal.returns
returns c = λ u asks h. takes_plainly c.args.self u asks h
