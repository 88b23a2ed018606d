use Rattle.std.proofs.Common.{◌≡◌, true, sym}
use mathlib.Core.Path.{subst}
use Rattle.liquid_meaning.specs.FilterNeeds.{items_each}
use Rattle.liquid_uses.specs.inside.Chains.{takes}
use Rattle.liquid_uses.proofs.Chains.{items_sees, value_sees, wanted_each}
use Rattle.liquid_uses.proofs.chain_places.ChainPlace.items.Goals as goal

pub returns-in-Value : goal.returns-in-Value
returns-in-Value c = λ u h. value_sees c.args.self c.in-Value.pair (items_each u) c.in-Value.is (c.items.ensures u h)

pub returns-in-Items : goal.returns-in-Items
returns-in-Items c = λ u h. items_sees c.args.self c.in-Items.pair (items_each u) c.in-Items.is (subst (λ v. takes c.in-Items.pair v ≡ true) (sym (wanted_each u)) h)
