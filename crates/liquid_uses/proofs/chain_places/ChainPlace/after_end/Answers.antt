use Rattle.std.proofs.Common.{◌≡◌, true, sym}
use mathlib.Core.Path.{subst}
use Rattle.liquid_meaning.specs.FilterNeeds.{one_field}
use Rattle.liquid_uses.specs.inside.Chains.{takes}
use Rattle.liquid_uses.proofs.Chains.{items_sees, value_sees, wanted_at}
use Rattle.liquid_uses.proofs.chain_places.ChainPlace.after_end.Goals as goal

pub returns-in-Value : goal.returns-in-Value
returns-in-Value c = λ w place h. value_sees c.args.self c.in-Value.pair (one_field c.args.key.now w) c.in-Value.is (c.member.ensures w h)

pub returns-in-Items : goal.returns-in-Items
returns-in-Items c = λ w place h. items_sees c.args.self c.in-Items.pair (one_field c.args.key.now w) c.in-Items.is (subst (λ v. takes c.in-Items.pair v ≡ true) (sym (wanted_at c.args.key.now w place)) h)
