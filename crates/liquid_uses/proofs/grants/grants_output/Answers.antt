use Rattle.liquid_evaluation.specs.ChainView.{chain_view}
use Rattle.liquid_model.specs.Uses.{everything}
use Rattle.liquid_model.specs.UseViews.{uses_view}
use Rattle.liquid_uses.proofs.Chains.{chain_granted}
use Rattle.liquid_uses.proofs.grants.grants_output.Goals as goal

pub returns-then-is_whole : goal.returns-then-is_whole
returns-then-is_whole c = λ h.
    let filters = rw c.deref.ensures.value at c.filters_granted.ensures in
    chain_granted (uses_view c.args.uses.now) everything (chain_view c.args.chain.now) (c.chain_place.ensures everything (c.is_whole.ensures everything c.if-is_whole.true)) (filters h)
