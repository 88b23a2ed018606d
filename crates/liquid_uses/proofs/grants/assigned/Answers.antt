use Rattle.std.proofs.Common.{◌≡◌, true, sym, ap}
use mathlib.Core.Path.{subst}
use Rattle.liquid_evaluation.specs.ChainView.{chain_view}
use Rattle.liquid_model.specs.Uses.{present}
use Rattle.liquid_model.specs.UseViews.{uses_view}
use Rattle.liquid_uses.specs.inside.Chains.{sees}
use Rattle.liquid_uses.specs.inside.Placing.{option_use}
use Rattle.liquid_uses.proofs.Chains.{chain_granted, found_use_is}
use Rattle.liquid_uses.proofs.grants.assigned.Goals as goal

pub returns-then-sees : goal.returns-then-sees
returns-then-sees c = λ h.
    let U = uses_view c.args.uses.now in
    let filters = rw c.deref.ensures.value at c.filters_granted.ensures in
    let asked = subst (λ u. sees c.present-place.result u ≡ true) (sym (found_use_is (U c.args.name.now) c.member_of.result c.member_of.ensures)) (c.sees.ensures c.if-sees.true) in
    chain_granted U (present (U c.args.name.now)) (chain_view c.args.chain.now) (c.chain_place.ensures (present (U c.args.name.now)) (c.present-place.ensures (U c.args.name.now) asked)) (filters h)
