use Rattle.std.proofs.Common.{◌≡◌, true, sym}
use mathlib.Core.Path.{subst}
use Rattle.liquid_meaning.specs.FilterNeeds.{items_each, one_field}
use Rattle.liquid_model.specs.Uses.{items_wanted, present}
use Rattle.liquid_uses.specs.inside.Chains.{sees}
use Rattle.liquid_uses.proofs.Chains.{never}
use Rattle.liquid_uses.proofs.chain_places.ChainPlace.after_map.Goals as goal

pub returns-in-Some : goal.returns-in-Some
returns-in-Some c = λ w h.
    let item = present (items_wanted w) in
    let name = c.in-Some.name.now in
    subst (λ u. sees c.args.self (present u) ≡ true) (sym (c.in-Some.ensures (λ t. items_each (one_field t item))))
    (c.items.ensures (one_field name item) (c.member.ensures item (c.present.ensures (items_wanted w) h)))

pub returns-in-None : goal.returns-in-None
returns-in-None c = λ w h. never (sees c.refused.result w) (c.refused.ensures w) h _
