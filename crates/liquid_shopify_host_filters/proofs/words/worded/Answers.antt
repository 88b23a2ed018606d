use Rattle.liquid_shopify_host_filters.proofs.Wordings.{worded_turn, worded_end}
use Rattle.liquid_shopify_host_filters.proofs.words.worded.Goals as goal

pub loop-letter-preserved : goal.loop-letter-preserved
loop-letter-preserved c =
    worded_turn c.args.wording c.loop-letter.state _ c.loop-letter.rest.rest.now _ _ _ _ c.in-Some.letter
    c.in-Some.ensures.steps.0 c.after-state.ensures c.in_ok-push_shown.ensures c.loop-letter.invariant

pub returns : goal.returns
returns c =
    worded_end c.args.wording c.loop-letter.state c.loop-letter.rest.rest.now _ _
    c.in_default.ensures.steps.0.0 c.loop-letter.invariant.1
