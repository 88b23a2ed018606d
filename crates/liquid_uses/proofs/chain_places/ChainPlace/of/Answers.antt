use Rattle.liquid_uses.specs.inside.Placing.{gives}
use Rattle.liquid_uses.proofs.Chains.{true_left}
use Rattle.liquid_uses.proofs.chain_places.ChainPlace.of.Goals as goal

pub returns : goal.returns
returns c = λ v h. true_left (gives c.args.place v) _ h
