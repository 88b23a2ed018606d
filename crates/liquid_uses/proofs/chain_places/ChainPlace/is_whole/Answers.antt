use Rattle.liquid_model.specs.Uses.{items_wanted}
use Rattle.liquid_uses.proofs.Chains.{items_sees, value_sees}
use Rattle.liquid_uses.proofs.chain_places.ChainPlace.is_whole.Goals as goal

pub returns-in-Value : goal.returns-in-Value
returns-in-Value c = λ v h. value_sees c.args.self c.in-Value.pair v c.in-Value.is (c.is_free.ensures v h)

pub returns-in-Items : goal.returns-in-Items
returns-in-Items c = λ v h. items_sees c.args.self c.in-Items.pair v c.in-Items.is (c.is_free-in-Items.ensures (items_wanted v) h)
