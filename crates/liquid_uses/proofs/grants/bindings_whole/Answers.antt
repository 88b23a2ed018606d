use Rattle.std.proofs.Common.{◌≡◌, true, rules}
use Rattle.liquid_model.specs.UseViews.{uses_view}
use Rattle.liquid_uses.proofs.EachGrants.{item_passed, all_passed, each_whole_pair}
use Rattle.liquid_uses.proofs.grants.bindings_whole.Goals as goal

pub loop-pair-preserved : goal.loop-pair-preserved
loop-pair-preserved c =
    let passed : c.grants_whole_value.result ≡ true = search rules in
    item_passed (each_whole_pair (uses_view c.args.uses.now)) _ _ _ c.loop-pair.invariant (c.grants_whole_value.ensures passed) c.pair-item.is c.loop-pair-test.true

pub returns : goal.returns
returns c = λ holds. all_passed (each_whole_pair (uses_view c.args.uses.now)) _ _ c.loop-pair.invariant c.loop-pair-test.false
