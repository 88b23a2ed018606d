use Rattle.std.proofs.Common.{string_bytes}
use Rattle.liquid_core.specs.States.{environment_of, layers_of}
use Rattle.liquid_meaning.specs.Meaning.{meaning}
use Rattle.liquid_engine.proofs.HostedPages.{hosted_whole, hosted_within}
use Rattle.liquid_engine.proofs.LimitedPages.{keeps_limits, keeps_none, ran_within}
use Rattle.liquid_engine.proofs.hosted_page.render_hosted_page.Goals as goal

pub returns-then-are_none-clause-page : goal.returns-then-are_none-clause-page
unfolding meaning
returns-then-are_none-clause-page g c =
    hosted_whole c.hosted_without_limits.result c.args.around.missing (g.H.NamedFilters.named c.args.host.now) c.args.around.depth _ _ _ (layers_of c.state_over-state.result) c.state_over-state.ensures.layers c.hosted_without_limits.ensures.page

pub returns-clause-page : goal.returns-clause-page
unfolding meaning
returns-clause-page g c =
    let wrote = c.text_with-text.result in
    let left = c.text_with-text.new.writer in
    hosted_within c.args.around.missing (string_bytes wrote.0) left.refusals left.last _ _ _ _ _ (layers_of c.state_over-state.result) (environment_of c.text_with-text.new.state) c.in_ok-page.page
    c.new-writer.result.refusals c.ended_by-limit.result wrote.1 c.state_over-state.ensures.layers c.new-writer.ensures.none c.ended_by-limit.ensures c.text_with-text.ensures.performs
    c.in_ok-page.ensures.page c.in_ok-page.ensures.ran

pub returns-then-are_none-clause-limits : goal.returns-then-are_none-clause-limits
returns-then-are_none-clause-limits g c = keeps_none c.args.around.limits c.hosted_without_limits.result (c.are_none.ensures.only c.if-are_none.true) c.hosted_without_limits.ensures.limits

pub returns-clause-limits : goal.returns-clause-limits
returns-clause-limits g c =
    let wrote = c.text_with-text.result in
    let left = c.text_with-text.new.writer in
    keeps_limits c.args.around.limits left.left (string_bytes wrote.0) left.refusals left.last c.in_ok-page.page c.ended_by-limit.result wrote.1
    (ran_within c.new-writer.result.left c.args.around.limits left.left left.refusals left.last (string_bytes wrote.0) c.new-writer.ensures.left c.text_with-text.ensures.bounded c.text_with-text.ensures.limited left.is_given)
    c.ended_by-limit.ensures c.in_ok-page.ensures.page
