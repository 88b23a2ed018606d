use Rattle.liquid_meaning.specs.FilterNeeds.{items_or_itself}
use Rattle.liquid_uses.proofs.Chains.{items_sees, value_sees}
use Rattle.liquid_uses.proofs.chain_places.ChainPlace.items_or_itself.Goals as goal

pub returns-in-Value : goal.returns-in-Value
returns-in-Value c = λ u asks h. value_sees c.args.self c.in-Value.pair (items_or_itself u) c.in-Value.is (c.items_or_itself.ensures u asks h)

pub returns-in-Items : goal.returns-in-Items
returns-in-Items c = λ u asks h. items_sees c.args.self c.in-Items.pair (items_or_itself u) c.in-Items.is (c.plainly.ensures u asks h)
