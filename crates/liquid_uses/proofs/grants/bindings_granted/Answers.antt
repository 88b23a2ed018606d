use Rattle.std.proofs.Common.{◌≡◌, true, rules}
use Rattle.liquid_model.specs.UseViews.{uses_view}
use Rattle.liquid_uses.proofs.EachGrants.{item_passed, all_passed, each_pair}
use Rattle.liquid_uses.proofs.grants.bindings_granted.Goals as goal

pub loop-pair-preserved : goal.loop-pair-preserved
loop-pair-preserved c =
    let passed : c.as_named.result ≡ true = search rules in
    let passes = rw c.as_str.ensures.value at c.as_named.ensures in
    item_passed (each_pair (uses_view c.args.uses.now)) _ _ _ c.loop-pair.invariant (passes passed) c.pair-item.is c.loop-pair-test.true

pub returns : goal.returns
returns c = λ holds. all_passed (each_pair (uses_view c.args.uses.now)) _ _ c.loop-pair.invariant c.loop-pair-test.false
