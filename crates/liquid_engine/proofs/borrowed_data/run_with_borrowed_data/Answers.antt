use Rattle.std.proofs.Common.{◌≡◌, [], true, ap, ◌∙◌}
use Rattle.std.proofs.lemmas.List.{nil_from_length}
use Rattle.liquid_core.specs.Held.{held}
use Rattle.liquid_core.specs.States.{data_held, layers_of, loops_of}
use Rattle.liquid_syntax.specs.Templates.{forest_of, tree_of}
use Rattle.liquid_engine.specs.inside.Engine.{nodes_in}
use Rattle.liquid_engine.specs.Sinks.{sink_of}
use Rattle.liquid_engine.proofs.BorrowedData.{borrowed_first, borrowed_last, borrowed_performs, borrowed_kept}
use Rattle.liquid_engine.proofs.PartialRuns.{within_all}
use Rattle.liquid_engine.proofs.Whole.{stood_in}
use Rattle.liquid_engine.proofs.borrowed_data.run_with_borrowed_data.Goals as goal

pub run_range-answer-requires : goal.run_range-answer-requires
run_range-answer-requires g c = (forest_of c.args.template.now, stood_in c.args.template.now c.nodes-nodes.result.now c.nodes-nodes.ensures)

pub returns-clause-performs : goal.returns-clause-performs
unfolding tree_of
returns-clause-performs g c =
    let sink = sink_of g.W.CountedWrite.contents g.W.CountedWrite.failure_count in
    let stood = stood_in c.args.template.now c.nodes-nodes.result.now c.nodes-nodes.ensures in
    let plain : loops_of c.replace.result ≡ [] = ap loops_of c.replace.ensures.value ∙ nil_from_length _ c.requires.plain in
    let taken = c.into_parts-parts.ensures plain ∙ ap layers_of c.replace.ensures.value in
    let first = borrowed_first (layers_of c.args.state.now) (layers_of c.from_parts-run_state.result) c.into_parts-parts.result.0 (data_held c.into_parts-parts.result.1) (held c.object.result.now) taken c.from_parts-run_state.ensures.layers c.object.ensures in
    let left = (c.run_range-answer.ensures.kept (forest_of c.args.template.now) stood (λ name. true) (within_all _) (within_all _)).globals in
    let last = borrowed_last (layers_of c.from_parts-run_state.result) (layers_of c.run_range-answer.new.state) (layers_of c.from_parts.result) c.into_parts-parts.result.0 c.into_parts-parts-2.result.0 (data_held c.into_parts-parts.result.1) (held c.object.result.now) (data_held c.into_parts-parts-2.result.1)
    c.from_parts-run_state.ensures.layers c.object.ensures left (c.into_parts-parts-2.ensures (c.run_range-answer.ensures.loops ∙ c.from_parts-run_state.ensures.loops)) c.from_parts.ensures.layers in
    borrowed_performs c.run_range-answer.result (nodes_in g.H.NamedFilters.named c.args.context.now (tree_of c.args.template.now)) (sink c.args.out.now) (sink c.run_range-answer.new.out)
    (layers_of c.args.state.now) (layers_of c.from_parts-run_state.result) (layers_of c.run_range-answer.new.state) (layers_of c.from_parts.result) first last (c.run_range-answer.ensures.performs (forest_of c.args.template.now) stood)

pub returns-clause-kept : goal.returns-clause-kept
unfolding tree_of
returns-clause-kept g c = λ N within inside.
    let stood = stood_in c.args.template.now c.nodes-nodes.result.now c.nodes-nodes.ensures in
    let plain : loops_of c.replace.result ≡ [] = ap loops_of c.replace.ensures.value ∙ nil_from_length _ c.requires.plain in
    let taken = c.into_parts-parts.ensures plain ∙ ap layers_of c.replace.ensures.value in
    let first = borrowed_first (layers_of c.args.state.now) (layers_of c.from_parts-run_state.result) c.into_parts-parts.result.0 (data_held c.into_parts-parts.result.1) (held c.object.result.now) taken c.from_parts-run_state.ensures.layers c.object.ensures in
    let left = (c.run_range-answer.ensures.kept (forest_of c.args.template.now) stood (λ name. true) (within_all _) (within_all _)).globals in
    let last = borrowed_last (layers_of c.from_parts-run_state.result) (layers_of c.run_range-answer.new.state) (layers_of c.from_parts.result) c.into_parts-parts.result.0 c.into_parts-parts-2.result.0 (data_held c.into_parts-parts.result.1) (held c.object.result.now) (data_held c.into_parts-parts-2.result.1)
    c.from_parts-run_state.ensures.layers c.object.ensures left (c.into_parts-parts-2.ensures (c.run_range-answer.ensures.loops ∙ c.from_parts-run_state.ensures.loops)) c.from_parts.ensures.layers in
    borrowed_kept N (layers_of c.args.state.now) (layers_of c.from_parts-run_state.result) (layers_of c.run_range-answer.new.state) (layers_of c.from_parts.result) first last (c.run_range-answer.ensures.kept (forest_of c.args.template.now) stood N within inside)

pub returns-clause-alone : goal.returns-clause-alone
unfolding tree_of
returns-clause-alone g c = λ are.
    let stood = stood_in c.args.template.now c.nodes-nodes.result.now c.nodes-nodes.ensures in
    let plain : loops_of c.replace.result ≡ [] = ap loops_of c.replace.ensures.value ∙ nil_from_length _ c.requires.plain in
    let taken = c.into_parts-parts.ensures plain ∙ ap layers_of c.replace.ensures.value in
    let first = borrowed_first (layers_of c.args.state.now) (layers_of c.from_parts-run_state.result) c.into_parts-parts.result.0 (data_held c.into_parts-parts.result.1) (held c.object.result.now) taken c.from_parts-run_state.ensures.layers c.object.ensures in
    let left = (c.run_range-answer.ensures.kept (forest_of c.args.template.now) stood (λ name. true) (within_all _) (within_all _)).globals in
    let last = borrowed_last (layers_of c.from_parts-run_state.result) (layers_of c.run_range-answer.new.state) (layers_of c.from_parts.result) c.into_parts-parts.result.0 c.into_parts-parts-2.result.0 (data_held c.into_parts-parts.result.1) (held c.object.result.now) (data_held c.into_parts-parts-2.result.1)
    c.from_parts-run_state.ensures.layers c.object.ensures left (c.into_parts-parts-2.ensures (c.run_range-answer.ensures.loops ∙ c.from_parts-run_state.ensures.loops)) c.from_parts.ensures.layers in
    last ∙ c.run_range-answer.ensures.alone (forest_of c.args.template.now) stood are ∙ first

pub returns-clause-silent : goal.returns-clause-silent
unfolding tree_of
returns-clause-silent g c = λ are.
    c.run_range-answer.ensures.silent (forest_of c.args.template.now) (stood_in c.args.template.now c.nodes-nodes.result.now c.nodes-nodes.ensures) are
