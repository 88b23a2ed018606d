use Rattle.std.proofs.Common.{ap, subst, ◌∙◌}
use Rattle.std.specs.Io.KnownBytes.{Appends}
use Rattle.liquid_core.specs.States.{merged_layers, new_layers}
use Rattle.liquid_evaluation.specs.Evaluation.{answers_with}
use Rattle.liquid_engine.specs.Added.{AppendsPart}
use Rattle.liquid_meaning.specs.Runs.{Nothing, Outcome}
use Rattle.liquid_page_texts.proofs.PageRuns.{outcome_same}
use Rattle.liquid_page_texts.proofs.page_from_texts.render_texts.Goals as goal

pub returns-clause-whole : goal.returns-clause-whole
returns-clause-whole g c = λ ran.
    let answers = c.build-runtime.ensures.host ∙ ap answers_with (c.set_depth.ensures.host ∙ c.set_partials.ensures.host ∙ c.set_globals.ensures.host ∙ c.new.ensures.host) in
    let partials = c.build-runtime.ensures.partials ∙ c.set_depth.ensures.partials ∙ c.set_partials.ensures.partials in
    let depth = c.build-runtime.ensures.depth ∙ c.set_depth.ensures.depth in
    let globals = c.set_depth.ensures.globals ∙ c.set_partials.ensures.globals ∙ c.set_globals.ensures.globals in
    let environment = ap merged_layers (c.build-runtime.ensures.layers ∙ ap new_layers globals) in
    subst (λ (o : Outcome Nothing). Appends (g.W.CountedWrite.contents c.args.writer.now) (g.W.CountedWrite.contents c.render_to-answer.new.writer) o.text) (outcome_same _ _ _ _ _ _ _ _ _ answers partials depth environment) (c.render_to-answer.ensures.whole ran)

pub returns-clause-end : goal.returns-clause-end
returns-clause-end g c = λ ran.
    let answers = c.build-runtime.ensures.host ∙ ap answers_with (c.set_depth.ensures.host ∙ c.set_partials.ensures.host ∙ c.set_globals.ensures.host ∙ c.new.ensures.host) in
    let partials = c.build-runtime.ensures.partials ∙ c.set_depth.ensures.partials ∙ c.set_partials.ensures.partials in
    let depth = c.build-runtime.ensures.depth ∙ c.set_depth.ensures.depth in
    let globals = c.set_depth.ensures.globals ∙ c.set_partials.ensures.globals ∙ c.set_globals.ensures.globals in
    let environment = ap merged_layers (c.build-runtime.ensures.layers ∙ ap new_layers globals) in
    c.render_to-answer.ensures.end ran ∙ ap (λ (o : Outcome Nothing). o.end) (outcome_same _ _ _ _ _ _ _ _ _ answers partials depth environment)

pub returns-clause-begun : goal.returns-clause-begun
returns-clause-begun g c =
    let answers = c.build-runtime.ensures.host ∙ ap answers_with (c.set_depth.ensures.host ∙ c.set_partials.ensures.host ∙ c.set_globals.ensures.host ∙ c.new.ensures.host) in
    let partials = c.build-runtime.ensures.partials ∙ c.set_depth.ensures.partials ∙ c.set_partials.ensures.partials in
    let depth = c.build-runtime.ensures.depth ∙ c.set_depth.ensures.depth in
    let globals = c.set_depth.ensures.globals ∙ c.set_partials.ensures.globals ∙ c.set_globals.ensures.globals in
    let environment = ap merged_layers (c.build-runtime.ensures.layers ∙ ap new_layers globals) in
    subst (λ (o : Outcome Nothing). AppendsPart (g.W.CountedWrite.contents c.args.writer.now) (g.W.CountedWrite.contents c.render_to-answer.new.writer) o.text) (outcome_same _ _ _ _ _ _ _ _ _ answers partials depth environment) c.render_to-answer.ensures.begun
