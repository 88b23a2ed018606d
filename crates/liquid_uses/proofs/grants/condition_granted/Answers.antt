use Rattle.std.proofs.Common.{◌≡◌, true, rules}
use Rattle.liquid_model.specs.UseViews.{uses_view}
use Rattle.liquid_uses.proofs.EachGrants.{item_passed, all_passed, each_conjunction}
use Rattle.liquid_uses.proofs.grants.condition_granted.Goals as goal

pub loop-conjunction-preserved : goal.loop-conjunction-preserved
loop-conjunction-preserved c =
    let passed : c.atoms_granted.result ≡ true = search rules in
    item_passed (each_conjunction (uses_view c.args.uses.now)) _ _ _ c.loop-conjunction.invariant (c.atoms_granted.ensures passed) c.conjunction-item.is c.loop-conjunction-test.true

pub returns : goal.returns
returns c = λ holds.
    rw (← c.deref-conjunction-items.ensures.value)
    (all_passed (each_conjunction (uses_view c.args.uses.now)) _ _ c.loop-conjunction.invariant c.loop-conjunction-test.false)
