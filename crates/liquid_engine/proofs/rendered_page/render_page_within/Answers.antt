use Rattle.std.proofs.Common.{string_bytes, subst}
use Rattle.liquid_core.specs.States.{environment_of, merged_layers}
use Rattle.liquid_syntax.specs.Templates.{partials_of, tree_of}
use Rattle.liquid_meaning.specs.Meaning.{meaning}
use Rattle.liquid_engine.specs.LimitedPages.{PageWithin}
use Rattle.liquid_engine.specs.Pages.{page_in, setting_over, shown}
use Rattle.liquid_engine.proofs.LimitedPages.{keeps_limits, page_within, ran_within}
use Rattle.liquid_engine.proofs.rendered_page.render_page_within.Goals as goal

pub returns-clause-page : goal.returns-clause-page
unfolding page_in
returns-clause-page c =
    let run = meaning (setting_over (partials_of c.args.around.partials.now)) c.args.around.depth (tree_of c.args.template.now) in
    let wrote = c.text_beside-text.result in
    let left = c.text_beside-text.new.writer in
    subst (λ l. PageWithin (shown (run (merged_layers l))) (record { page = c.in_ok-page.page; limit = c.ended_by-limit.result })) c.state_over.ensures.layers
    (page_within (string_bytes wrote.0) left.refusals left.last run (environment_of c.state_over.result) (environment_of c.text_beside-text.new.runtime.state) c.in_ok-page.page
    c.new-writer.result.refusals c.ended_by-limit.result wrote.1 c.new-writer.ensures.none c.ended_by-limit.ensures c.text_beside-text.ensures.performs c.in_ok-page.ensures.page c.in_ok-page.ensures.ran)

pub returns-clause-limits : goal.returns-clause-limits
returns-clause-limits c =
    let wrote = c.text_beside-text.result in
    let left = c.text_beside-text.new.writer in
    keeps_limits c.args.around.limits left.left (string_bytes wrote.0) left.refusals left.last c.in_ok-page.page c.ended_by-limit.result wrote.1
    (ran_within c.new-writer.result.left c.args.around.limits left.left left.refusals left.last (string_bytes wrote.0) c.new-writer.ensures.left c.text_beside-text.ensures.bounded c.text_beside-text.ensures.limited left.is_given)
    c.ended_by-limit.ensures c.in_ok-page.ensures.page
