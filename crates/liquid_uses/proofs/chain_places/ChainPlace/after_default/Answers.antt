use Rattle.liquid_uses.specs.inside.Chains.{sees}
use Rattle.liquid_uses.proofs.Chains.{items_default, never, value_default}
use Rattle.liquid_model.specs.Uses.{nothing}
use Rattle.liquid_uses.proofs.chain_places.ChainPlace.after_default.Goals as goal

pub returns-then-is_open : goal.returns-then-is_open
returns-then-is_open c = λ w h. value_default c.args.self c.in-Value.pair w c.in-Value.is (c.items.ensures nothing (c.is_open.ensures c.if-is_open.true)) h

pub returns-else-is_open : goal.returns-else-is_open
returns-else-is_open c = λ w h. never (sees c.refused.result w) (c.refused.ensures w) h _

pub returns-in-Items : goal.returns-in-Items
returns-in-Items c = λ w h. items_default c.args.self c.in-Items.field-0 w c.in-Items.is h
