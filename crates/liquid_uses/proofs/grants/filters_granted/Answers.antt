use Rattle.std.proofs.Common.{◌≡◌, true, rules}
use Rattle.liquid_model.specs.UseViews.{uses_view}
use Rattle.liquid_uses.proofs.EachGrants.{item_passed, all_passed, each_filter}
use Rattle.liquid_uses.proofs.grants.filters_granted.Goals as goal

pub loop-filter-preserved : goal.loop-filter-preserved
loop-filter-preserved c =
    let passed : c.all_whole.result ≡ true = search rules in
    let passes = rw c.deref.ensures.value at c.all_whole.ensures in
    item_passed (each_filter (uses_view c.args.uses.now)) _ _ _ c.loop-filter.invariant (passes passed) c.filter-item.is c.loop-filter-test.true

pub returns : goal.returns
returns c = λ holds. all_passed (each_filter (uses_view c.args.uses.now)) _ _ c.loop-filter.invariant c.loop-filter-test.false
