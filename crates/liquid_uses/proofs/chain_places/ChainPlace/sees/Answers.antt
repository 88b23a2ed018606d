use Rattle.liquid_uses.specs.inside.Placing.{option_use}
use Rattle.liquid_uses.proofs.Chains.{items_sees, value_sees}
use Rattle.liquid_uses.proofs.chain_places.ChainPlace.sees.Goals as goal

pub returns-in-Value : goal.returns-in-Value
returns-in-Value c = λ h. value_sees c.args.self c.in-Value.pair (option_use c.args.asked) c.in-Value.is (c.takes_found.ensures h)

pub returns-in-Items : goal.returns-in-Items
returns-in-Items c = λ h. items_sees c.args.self c.in-Items.pair (option_use c.args.asked) c.in-Items.is (c.takes_found_wanted.ensures h)
