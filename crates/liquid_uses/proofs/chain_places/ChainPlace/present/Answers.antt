use Rattle.liquid_model.specs.Uses.{present}
use Rattle.liquid_uses.proofs.Chains.{items_present, value_sees}
use Rattle.liquid_uses.proofs.chain_places.ChainPlace.present.Goals as goal

pub returns-in-Value : goal.returns-in-Value
returns-in-Value c = λ v h. value_sees c.args.self c.in-Value.pair (present v) c.in-Value.is (c.present.ensures v h)

pub returns-in-Items : goal.returns-in-Items
returns-in-Items c = λ v h. items_present c.args.self c.in-Items.field-0 v c.in-Items.is h
