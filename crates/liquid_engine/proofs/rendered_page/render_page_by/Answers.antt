use Rattle.std.proofs.Common.{length, string_bytes, ap, subst}
use Rattle.liquid_model.specs.Answer.{IsValueOrMemory}
use Rattle.liquid_core.specs.States.{environment_of, merged_layers}
use Rattle.liquid_syntax.specs.Templates.{partials_of, tree_of}
use Rattle.liquid_meaning.specs.Meaning.{meaning}
use Rattle.liquid_engine.specs.Pages.{page_in, page_view, setting_over, shown}
use Rattle.liquid_engine.proofs.Pages.{page_met}
use Rattle.liquid_engine.proofs.rendered_page.render_page_by.Goals as goal

pub invariant_of-runtime : goal.invariant_of-runtime
invariant_of-runtime c = record { plain = ap length c.state_over.ensures.loops }

pub returns : goal.returns
unfolding page_in
returns c =
    let run = meaning (setting_over (partials_of c.args.partials.now)) c.args.setting.depth (tree_of c.args.template.now) in
    let wrote = c.text_of_run-text.result in
    subst (λ l. IsValueOrMemory page_view c.page_of_end.result (shown (run (merged_layers l)))) c.state_over.ensures.layers
    (page_met (string_bytes wrote.0) run (environment_of c.state_over.result) (environment_of c.text_of_run-text.new.runtime.state) c.page_of_end.result wrote.1 c.text_of_run-text.ensures.performs c.page_of_end.ensures.page c.page_of_end.ensures.ran c.page_of_end.ensures.memory)
