use Rattle.std.proofs.Common.{◌≡◌, true, sym}
use mathlib.Core.Path.{subst}
use Rattle.liquid_meaning.specs.FilterNeeds.{items_or_itself, with_field}
use Rattle.liquid_model.specs.Uses.{everything, items_wanted, present}
use Rattle.liquid_uses.specs.inside.Chains.{sees}
use Rattle.liquid_uses.proofs.Chains.{asks_with, itself_present, never}
use Rattle.liquid_uses.proofs.chain_places.ChainPlace.after_order.Goals as goal

pub returns-in-Some : goal.returns-in-Some
returns-in-Some c = λ w h.
    let item = items_wanted w in
    let name = c.in-Some.name.now in
    subst (λ u. sees c.args.self (present u) ≡ true) (sym (c.in-Some.ensures (λ t. items_or_itself (with_field t everything item))))
    (subst (λ u. sees c.args.self u ≡ true) (sym (itself_present name item)) (c.items_or_itself.ensures (with_field name everything item) (asks_with name item) (c.with_whole.ensures item h)))

pub returns-in-None : goal.returns-in-None
returns-in-None c = λ w h. never (sees c.refused.result w) (c.refused.ensures w) h _
