use Rattle.liquid_model.specs.Uses.{nothing}
use Rattle.liquid_uses.specs.inside.Chains.{sees}
use Rattle.liquid_uses.proofs.Chains.{never}
use Rattle.liquid_uses.proofs.chain_places.ChainPlace.after_size.Goals as goal

pub returns-then-is_open : goal.returns-then-is_open
returns-then-is_open c = λ w h. c.items.ensures nothing (c.is_open.ensures c.if-is_open.true)

pub returns-else-is_open : goal.returns-else-is_open
returns-else-is_open c = λ w h. never (sees c.refused.result w) (c.refused.ensures w) h _
