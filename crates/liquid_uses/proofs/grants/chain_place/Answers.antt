use Rattle.liquid_uses.proofs.Chains.{seen_all, seen_further}
use Rattle.liquid_uses.proofs.grants.chain_place.Goals as goal

pub loop-filter-preserved : goal.loop-filter-preserved
loop-filter-preserved c = seen_further _ _ _ _ _ _ c.filter-item.is c.loop-filter-test.true c.loop-filter.invariant c.after-place.ensures

pub returns : goal.returns
returns c = λ v h.
    rw (← c.deref-filter-items.ensures.value)
    (c.reached.ensures _ (c.of-place.ensures _ (seen_all _ _ _ _ c.loop-filter-test.false c.loop-filter.invariant v h)))
