use Rattle.std.proofs.Common.{Result, rules, arith, inl, inr, ℕ, ◌≡◌, ◌+◌, ◌-◌, ◌*◌, ◌<◌, ◌≤◌, ◌∙◌, length, map, true, refl, sym, ap, subst, string_bytes, Option, Some, None, Ok, Err, List, []}
use Rattle.std.specs.Option.{option_map}
use Rattle.std.proofs.lemmas.Result.{err_from_is_err_and}
use Rattle.std.proofs.lemmas.Bool.{false≢true}
use Rattle.liquid_model.specs.Answer.{IsValueOrMemory}
use Rattle.std.specs.Prelude.{codes, get_or}
use Rattle.liquid_model.specs.Data.{Datum, nil, text}
use Rattle.liquid_model.specs.Maps.{Map}
use Rattle.liquid_model.specs.declared.error.Error.{Error}
use Rattle.liquid_model.proofs.Views.{view-Text}
use Rattle.liquid_core.specs.ExpressionView.{expression_view}
use Rattle.liquid_core.specs.States.{environment_of, layers_of, loops_of, merged_layers, with_assigned, enclosing_scopes, with_scope_popped}
use Rattle.liquid_core.specs.declared.interrupt.Interrupt.{Interrupt}
use Rattle.liquid_core.specs.declared.interrupt.Interrupt.TheVariants as interrupts
use Rattle.liquid_core.specs.Loops.{loop_scope, forloop_object}
use Rattle.liquid_core.specs.LoopFrames.{frame_map, without_innermost}
use Rattle.liquid_core.proofs.States.{interrupt_set, turn_off}
use Rattle.liquid_evaluation.specs.ItemLists.{all_items}
use Rattle.liquid_evaluation.proofs.ItemPlaces.{item_by_place}
use Rattle.liquid_evaluation.specs.ChainView.{chain_filter_view, chain_view}
use Rattle.liquid_evaluation.specs.ConditionView.{condition_view}
use Rattle.liquid_evaluation.specs.Names.{filters_names, node_names, nodes_names}
use Rattle.liquid_evaluation.specs.Tree as tree
use Rattle.liquid_syntax.specs.Flats.{Maker, IsForestAt, IsNodeRange, bindings_view, each_view, flats, nodes_of, window_view}
use Rattle.liquid_syntax.specs.Forest.{Forest}
use Rattle.liquid_syntax.specs.Templates.{forest_of, most_of, partials_of, tree_of}
use Rattle.liquid_syntax.proofs.Places.{Stands-le, nothing_left}
use Rattle.liquid_meaning.specs.Effects.{assigned_to, interrupted_by}
use Rattle.liquid_meaning.specs.Meaning.{node_meaning, deeper_meaning, render_apart}
use Rattle.liquid_meaning.specs.Runs.{buffered, change}
use Rattle.liquid_meaning.proofs.Law.{within_found}
use Rattle.liquid_meaning.proofs.Rules.{comment_rule, break_rule, continue_rule, capture_rule, ifchanged_rule, filtered_rule}
use Rattle.liquid_meaning.proofs.Within.{right}
use Rattle.liquid_engine.specs.inside.Changed.{shown_if_changed}
use Rattle.liquid_engine.specs.inside.Filtered.{written_through}
use Rattle.liquid_engine.specs.inside.Choices.{CaseStands, HasCaseAt, Chosen, NodeComesTo}
use Rattle.liquid_engine.specs.Failures.{raised}
use Rattle.liquid_engine.specs.inside.Engine.{setting_of, node_meant, nodes_meant}
use Rattle.liquid_engine.specs.StateKept.{Keeps, LayersKept}
use Rattle.liquid_engine.specs.inside.Partials.{item_scope}
use Rattle.liquid_meaning.specs.Within.{Within}
use Rattle.liquid_evaluation.specs.Names.{partials_names}
use Rattle.liquid_engine.specs.Performs.{Meets, Performs, configuration_of, unit, WritesText}
use Rattle.liquid_engine.specs.Sinks.{sink_of}
use Rattle.liquid_engine.proofs.Cases.{the_case, case_performs, case_keeps, case_other, case_loud}
use Rattle.liquid_engine.proofs.Choices.{chosen_inside, chosen_performs, refused_performs}
use Rattle.liquid_engine.proofs.Going.{leaf_performs, leaf_keeps, leaf_other, one, one_performs, one_keeps, one_other, two, two_performs, two_keeps, two_other, going_fault, going_halt, going_node, going_on, going_end, going_past, kept_step, alone_step, leaf_next, node_before, node_from, node_unfailed, node_within}
use Rattle.liquid_engine.proofs.Interrupts.{interrupt_of, some_of, none_of}
use Rattle.liquid_engine.proofs.Joined.{by_rule, bind_met, bind_faulted, buffered_met, buffered_faulted, buffered_memory, change_met, done_met, gives_merged, memory_at}
use Rattle.liquid_engine.proofs.StateKept.{kept_same, kept_after, kept_assigned, kept_interrupt}
use Rattle.liquid_engine.proofs.PartialRuns.{reserve, reserve_left, same_setting, include_found, include_refused, include_runs, item_refused, item_runs, jekyll_found, jekyll_refused, jekyll_runs, render_refused, render_runs, within_all, kept_around, partial_met}
use Rattle.liquid_engine.proofs.ItemRuns.{items_left, item_on, item_breaks, item_faulted, items_end}
use Rattle.liquid_engine.proofs.RenderEach.{item_run, name_refused, items_refused, items_met}
use Rattle.liquid_engine.proofs.SameKindOrMemory.{fault_again, met_again}
use Rattle.liquid_engine.proofs.Silent.{leaf_loud, one_loud, two_loud, silent_done, silent_next}
use Rattle.liquid_engine.proofs.Sinks.{around_buffer}
use Rattle.liquid_engine.proofs.Whole.{stood_in}
use Rattle.liquid_syntax.specs.declared.loop_nodes.For as heads_For
use Rattle.liquid_syntax.specs.declared.loop_nodes.TableRow as heads_TableRow
use Rattle.liquid_core.specs.declared.frame.Scope.{Scope}
use Rattle.liquid_core.specs.declared.frame.LoopFrame.{LoopFrame}
use Rattle.liquid_evaluation.specs.SourceView.{source_view}
use Rattle.liquid_engine.specs.inside.LoopRuns.{StartsAt, enclosing_names, cells_meant, enclosing_configuration, turns_meant}
use Rattle.liquid_engine.specs.inside.LoopTurns.{AreRows, IsFor, IsRow, cells_asked, cells_of, items_asked, turn_items, loop_values}
use Rattle.std.specs.Prelude.{IfOk, IfSome}
use Rattle.liquid_meaning.specs.Loops.{cell_end}
use Rattle.liquid_engine.proofs.Turns.{may_not_begin, may_not_meet, meets_from, no_nodes_met}
use Rattle.liquid_engine.proofs.Turning.{TurnsLead, CellsLead, enclosing_after_advance, at_goes_on, at_kept, at_next, at_off, at_pushed, at_start, cell_fault, cell_faulted, cell_on, cell_ran, cell_unopened, cells_end, cells_start, for_within, from_enclosing, row_within, kept_cell, kept_from_enclosing, kept_turn, turn_break, turn_fault, turn_faulted, turn_on, turn_ran, turns_end, turns_start}
use Rattle.liquid_engine.proofs.LoopMeanings.{for_none, for_refused, for_some, row_none, row_refused, row_some}
use Rattle.liquid_engine.proofs.Reserves.{around_bounded, around_limited, less_then, no_less}
use Rattle.liquid_engine.proofs.engine.+run.Goals as goal

-- ---- a list without nodes

pub run_range-returns-then-from-to-clause-performs : goal.run_range-returns-then-from-to-clause-performs
run_range-returns-then-from-to-clause-performs g t c f stood =
    let place = configuration_of g.W.CountedWrite.contents g.W.CountedWrite.failure_count in
    let none = nothing_left (flats c.args.nodes.now) c.args.from f c.args.to stood (omega (arith, c.if-from-to.true)) in
    subst (λ x. Performs c.run_no_nodes.result (nodes_meant (setting_of g.H.NamedFilters.named c.args.context.now) c.args.context.now.depth (nodes_of x)) (place c.args.out.now c.args.state.now) (place c.run_no_nodes.new.out c.args.state.now)) (sym none)
    (no_nodes_met (setting_of g.H.NamedFilters.named c.args.context.now) (deeper_meaning (setting_of g.H.NamedFilters.named c.args.context.now) c.args.context.now.depth) c.run_no_nodes.result _ _ (environment_of c.args.state.now) c.run_no_nodes.ensures.writes)

pub run_range-returns-then-from-to-clause-kept : goal.run_range-returns-then-from-to-clause-kept
run_range-returns-then-from-to-clause-kept g t c f stood N names inside = kept_same N (layers_of c.args.state.now) (layers_of c.args.state.now) refl

pub run_range-returns-then-from-to-clause-silent : goal.run_range-returns-then-from-to-clause-silent
run_range-returns-then-from-to-clause-silent g t c f stood are = c.run_no_nodes.ensures.stopped

-- ---- a text of a range

pub run_range-bounds-nodes-at : goal.run_range-bounds-nodes-at
run_range-bounds-nodes-at g t c =
    let place = configuration_of g.W.CountedWrite.contents g.W.CountedWrite.failure_count in
    let is_node = going_node (setting_of g.H.NamedFilters.named c.args.context.now) c.args.context.now.depth c.args.nodes.now c.args.from c.loop-at.at c.args.to (place c.args.out.now c.args.state.now) (place c.loop-at.out c.loop-at.state) c.requires c.loop-at.invariant.going c.loop-at-test.true in
    node_within c.args.nodes.now c.loop-at.at c.args.to is_node

pub run_range-offset_bounds-nodes-at : goal.run_range-offset_bounds-nodes-at
run_range-offset_bounds-nodes-at g t c =
    let place = configuration_of g.W.CountedWrite.contents g.W.CountedWrite.failure_count in
    let is_node = going_node (setting_of g.H.NamedFilters.named c.args.context.now) c.args.context.now.depth c.args.nodes.now c.args.from c.loop-at.at c.args.to (place c.args.out.now c.args.state.now) (place c.loop-at.out c.loop-at.state) c.requires c.loop-at.invariant.going c.loop-at-test.true in
    let lt : c.loop-at.at < length c.args.nodes.now = node_within c.args.nodes.now c.loop-at.at c.args.to is_node in
    search rules

pub run_range-returns-in_err-run_text-clause-performs : goal.run_range-returns-in_err-run_text-clause-performs
run_range-returns-in_err-run_text-clause-performs g t c f stood =
    let place = configuration_of g.W.CountedWrite.contents g.W.CountedWrite.failure_count in
    let is_node = going_node (setting_of g.H.NamedFilters.named c.args.context.now) c.args.context.now.depth c.args.nodes.now c.args.from c.loop-at.at c.args.to (place c.args.out.now c.args.state.now) (place c.loop-at.out c.loop-at.state) c.requires c.loop-at.invariant.going c.loop-at-test.true in
    let p = err_from_is_err_and c.from_residual.result c.from_residual.ensures.1 in
    rw (p.1, p.2) ((going_fault (setting_of g.H.NamedFilters.named c.args.context.now) c.args.context.now.depth c.args.nodes.now c.args.from c.loop-at.at c.args.to c.in_err-run_text.field-0.0 (place c.args.out.now c.args.state.now) (place c.loop-at.out c.loop-at.state) (place c.run_text.new.out c.run_text.new.state) c.loop-at.invariant.going c.loop-at-test.true
    (leaf_performs (setting_of g.H.NamedFilters.named c.args.context.now) c.args.context.now.depth c.args.nodes.now c.loop-at.at c.args.to c.index-nodes-at.result _ (tree.plain (string_bytes c.in-Text.text)) (Err c.in_err-run_text.field-0.0) (place c.loop-at.out c.loop-at.state) (place c.run_text.new.out c.run_text.new.state) is_node c.index-nodes-at.is c.in-Text.is refl
    (subst (λ x. Performs (Err c.in_err-run_text.field-0.0) (node_meant (setting_of g.H.NamedFilters.named c.args.context.now) c.args.context.now.depth (tree.plain x)) (place c.loop-at.out c.loop-at.state) (place c.run_text.new.out c.run_text.new.state)) c.as_str.ensures.value c.in_err-run_text.ensures.performs)) f stood))

pub run_range-returns-in_err-run_text-clause-alone : goal.run_range-returns-in_err-run_text-clause-alone
run_range-returns-in_err-run_text-clause-alone g t c f stood =
    let place = configuration_of g.W.CountedWrite.contents g.W.CountedWrite.failure_count in
    let is_node = going_node (setting_of g.H.NamedFilters.named c.args.context.now) c.args.context.now.depth c.args.nodes.now c.args.from c.loop-at.at c.args.to (place c.args.out.now c.args.state.now) (place c.loop-at.out c.loop-at.state) c.requires c.loop-at.invariant.going c.loop-at-test.true in
    alone_step (setting_of g.H.NamedFilters.named c.args.context.now) c.args.context.now.depth c.args.nodes.now c.args.from c.loop-at.at c.args.to (place c.args.out.now c.args.state.now) (place c.loop-at.out c.loop-at.state) c.args.state.now c.loop-at.state c.run_text.new.state f stood c.loop-at.invariant.going c.loop-at-test.true
    (leaf_other c.args.nodes.now c.loop-at.at c.args.to c.index-nodes-at.result _ (tree.plain (string_bytes c.in-Text.text)) c.loop-at.state c.run_text.new.state is_node c.index-nodes-at.is c.in-Text.is refl (λ no. absurd no)) (c.loop-at.invariant.alone f stood)

pub run_range-returns-in_err-run_text-clause-kept : goal.run_range-returns-in_err-run_text-clause-kept
run_range-returns-in_err-run_text-clause-kept g t c f stood =
    let place = configuration_of g.W.CountedWrite.contents g.W.CountedWrite.failure_count in
    let is_node = going_node (setting_of g.H.NamedFilters.named c.args.context.now) c.args.context.now.depth c.args.nodes.now c.args.from c.loop-at.at c.args.to (place c.args.out.now c.args.state.now) (place c.loop-at.out c.loop-at.state) c.requires c.loop-at.invariant.going c.loop-at-test.true in
    kept_step (setting_of g.H.NamedFilters.named c.args.context.now) c.args.context.now.depth c.args.nodes.now c.args.from c.loop-at.at c.args.to (place c.args.out.now c.args.state.now) (place c.loop-at.out c.loop-at.state) c.args.state.now c.loop-at.state c.run_text.new.state f stood c.loop-at.invariant.going c.loop-at-test.true
    (leaf_keeps (setting_of g.H.NamedFilters.named c.args.context.now) c.args.nodes.now c.loop-at.at c.args.to c.index-nodes-at.result _ (tree.plain (string_bytes c.in-Text.text)) c.loop-at.state c.run_text.new.state is_node c.index-nodes-at.is c.in-Text.is refl
    (subst (λ x. Keeps (node_names (tree.plain x)) (setting_of g.H.NamedFilters.named c.args.context.now) c.loop-at.state c.run_text.new.state) c.as_str.ensures.value c.run_text.ensures.kept)) (c.loop-at.invariant.kept f stood)

pub run_range-returns-in_err-run_text-clause-silent : goal.run_range-returns-in_err-run_text-clause-silent
run_range-returns-in_err-run_text-clause-silent g t c f stood are =
    let place = configuration_of g.W.CountedWrite.contents g.W.CountedWrite.failure_count in
    let is_node = going_node (setting_of g.H.NamedFilters.named c.args.context.now) c.args.context.now.depth c.args.nodes.now c.args.from c.loop-at.at c.args.to (place c.args.out.now c.args.state.now) (place c.loop-at.out c.loop-at.state) c.requires c.loop-at.invariant.going c.loop-at-test.true in
    absurd (false≢true (silent_done c.args.nodes.now c.args.from c.loop-at.at c.args.to (Err c.in_err-run_text.field-0.0) f stood are c.loop-at.invariant.silent c.loop-at-test.true
    (λ n next there silent. absurd (leaf_loud c.args.nodes.now c.loop-at.at c.args.to c.index-nodes-at.result _ (tree.plain (string_bytes c.in-Text.text)) is_node c.index-nodes-at.is c.in-Text.is refl (λ no. absurd no) n next there silent))))

pub run_range-returns-then-is_some-clause-performs : goal.run_range-returns-then-is_some-clause-performs
run_range-returns-then-is_some-clause-performs g t c f stood =
    let place = configuration_of g.W.CountedWrite.contents g.W.CountedWrite.failure_count in
    let is_node = going_node (setting_of g.H.NamedFilters.named c.args.context.now) c.args.context.now.depth c.args.nodes.now c.args.from c.loop-at.at c.args.to (place c.args.out.now c.args.state.now) (place c.loop-at.out c.loop-at.state) c.requires c.loop-at.invariant.going c.loop-at-test.true in
    let some = some_of c.run_text.new.state.interrupt (search rules) in
    (going_halt (setting_of g.H.NamedFilters.named c.args.context.now) c.args.context.now.depth c.args.nodes.now c.args.from c.loop-at.at c.args.to _ _ some.0 (place c.args.out.now c.args.state.now) (place c.loop-at.out c.loop-at.state) (place c.run_text.new.out c.run_text.new.state) c.loop-at.invariant.going c.loop-at-test.true
    (leaf_performs (setting_of g.H.NamedFilters.named c.args.context.now) c.args.context.now.depth c.args.nodes.now c.loop-at.at c.args.to c.index-nodes-at.result _ (tree.plain (string_bytes c.in-Text.text)) (Ok c.in_ok-run_text.field-0) (place c.loop-at.out c.loop-at.state) (place c.run_text.new.out c.run_text.new.state) is_node c.index-nodes-at.is c.in-Text.is refl
    (subst (λ x. Performs (Ok c.in_ok-run_text.field-0) (node_meant (setting_of g.H.NamedFilters.named c.args.context.now) c.args.context.now.depth (tree.plain x)) (place c.loop-at.out c.loop-at.state) (place c.run_text.new.out c.run_text.new.state)) c.as_str.ensures.value c.in_ok-run_text.ensures.performs)) (interrupt_of c.run_text.new.state _ some.1) f stood)

pub run_range-returns-then-is_some-clause-alone : goal.run_range-returns-then-is_some-clause-alone
run_range-returns-then-is_some-clause-alone g t c f stood =
    let place = configuration_of g.W.CountedWrite.contents g.W.CountedWrite.failure_count in
    let is_node = going_node (setting_of g.H.NamedFilters.named c.args.context.now) c.args.context.now.depth c.args.nodes.now c.args.from c.loop-at.at c.args.to (place c.args.out.now c.args.state.now) (place c.loop-at.out c.loop-at.state) c.requires c.loop-at.invariant.going c.loop-at-test.true in
    alone_step (setting_of g.H.NamedFilters.named c.args.context.now) c.args.context.now.depth c.args.nodes.now c.args.from c.loop-at.at c.args.to (place c.args.out.now c.args.state.now) (place c.loop-at.out c.loop-at.state) c.args.state.now c.loop-at.state c.run_text.new.state f stood c.loop-at.invariant.going c.loop-at-test.true
    (leaf_other c.args.nodes.now c.loop-at.at c.args.to c.index-nodes-at.result _ (tree.plain (string_bytes c.in-Text.text)) c.loop-at.state c.run_text.new.state is_node c.index-nodes-at.is c.in-Text.is refl (λ no. absurd no)) (c.loop-at.invariant.alone f stood)

pub run_range-returns-then-is_some-clause-kept : goal.run_range-returns-then-is_some-clause-kept
run_range-returns-then-is_some-clause-kept g t c f stood =
    let place = configuration_of g.W.CountedWrite.contents g.W.CountedWrite.failure_count in
    let is_node = going_node (setting_of g.H.NamedFilters.named c.args.context.now) c.args.context.now.depth c.args.nodes.now c.args.from c.loop-at.at c.args.to (place c.args.out.now c.args.state.now) (place c.loop-at.out c.loop-at.state) c.requires c.loop-at.invariant.going c.loop-at-test.true in
    kept_step (setting_of g.H.NamedFilters.named c.args.context.now) c.args.context.now.depth c.args.nodes.now c.args.from c.loop-at.at c.args.to (place c.args.out.now c.args.state.now) (place c.loop-at.out c.loop-at.state) c.args.state.now c.loop-at.state c.run_text.new.state f stood c.loop-at.invariant.going c.loop-at-test.true
    (leaf_keeps (setting_of g.H.NamedFilters.named c.args.context.now) c.args.nodes.now c.loop-at.at c.args.to c.index-nodes-at.result _ (tree.plain (string_bytes c.in-Text.text)) c.loop-at.state c.run_text.new.state is_node c.index-nodes-at.is c.in-Text.is refl
    (subst (λ x. Keeps (node_names (tree.plain x)) (setting_of g.H.NamedFilters.named c.args.context.now) c.loop-at.state c.run_text.new.state) c.as_str.ensures.value c.run_text.ensures.kept)) (c.loop-at.invariant.kept f stood)

pub run_range-loop-at-preserved-in-Text : goal.run_range-loop-at-preserved-in-Text
run_range-loop-at-preserved-in-Text g t c =
    let place = configuration_of g.W.CountedWrite.contents g.W.CountedWrite.failure_count in
    let is_node = going_node (setting_of g.H.NamedFilters.named c.args.context.now) c.args.context.now.depth c.args.nodes.now c.args.from c.loop-at.at c.args.to (place c.args.out.now c.args.state.now) (place c.loop-at.out c.loop-at.state) c.requires c.loop-at.invariant.going c.loop-at-test.true in
    let ends = leaf_next c.args.nodes.now c.loop-at.at c.args.to c.index-nodes-at.result _ (tree.plain (string_bytes c.in-Text.text)) is_node c.index-nodes-at.is c.in-Text.is refl in
    let none = none_of c.run_text.new.state.interrupt (search rules) in
    record {
      ordered = omega (arith, c.loop-at.invariant.ordered);
      going = going_on (setting_of g.H.NamedFilters.named c.args.context.now) c.args.context.now.depth c.args.nodes.now c.args.from c.loop-at.at c.args.to (c.loop-at.at + 1) _ (place c.args.out.now c.args.state.now) (place c.loop-at.out c.loop-at.state) (place c.run_text.new.out c.run_text.new.state) c.loop-at.invariant.going c.loop-at-test.true
          (leaf_performs (setting_of g.H.NamedFilters.named c.args.context.now) c.args.context.now.depth c.args.nodes.now c.loop-at.at c.args.to c.index-nodes-at.result _ (tree.plain (string_bytes c.in-Text.text)) (Ok c.in_ok-run_text.field-0) (place c.loop-at.out c.loop-at.state) (place c.run_text.new.out c.run_text.new.state) is_node c.index-nodes-at.is c.in-Text.is refl
          (subst (λ x. Performs (Ok c.in_ok-run_text.field-0) (node_meant (setting_of g.H.NamedFilters.named c.args.context.now) c.args.context.now.depth (tree.plain x)) (place c.loop-at.out c.loop-at.state) (place c.run_text.new.out c.run_text.new.state)) c.as_str.ensures.value c.in_ok-run_text.ensures.performs)) (interrupt_of c.run_text.new.state _ none) ends;
      kept = λ f stood. kept_step (setting_of g.H.NamedFilters.named c.args.context.now) c.args.context.now.depth c.args.nodes.now c.args.from c.loop-at.at c.args.to (place c.args.out.now c.args.state.now) (place c.loop-at.out c.loop-at.state) c.args.state.now c.loop-at.state c.run_text.new.state f stood c.loop-at.invariant.going c.loop-at-test.true
          (leaf_keeps (setting_of g.H.NamedFilters.named c.args.context.now) c.args.nodes.now c.loop-at.at c.args.to c.index-nodes-at.result _ (tree.plain (string_bytes c.in-Text.text)) c.loop-at.state c.run_text.new.state is_node c.index-nodes-at.is c.in-Text.is refl
          (subst (λ x. Keeps (node_names (tree.plain x)) (setting_of g.H.NamedFilters.named c.args.context.now) c.loop-at.state c.run_text.new.state) c.as_str.ensures.value c.run_text.ensures.kept)) (c.loop-at.invariant.kept f stood);
      alone = λ f stood. alone_step (setting_of g.H.NamedFilters.named c.args.context.now) c.args.context.now.depth c.args.nodes.now c.args.from c.loop-at.at c.args.to (place c.args.out.now c.args.state.now) (place c.loop-at.out c.loop-at.state) c.args.state.now c.loop-at.state c.run_text.new.state f stood c.loop-at.invariant.going c.loop-at-test.true
          (leaf_other c.args.nodes.now c.loop-at.at c.args.to c.index-nodes-at.result _ (tree.plain (string_bytes c.in-Text.text)) c.loop-at.state c.run_text.new.state is_node c.index-nodes-at.is c.in-Text.is refl (λ no. absurd no)) (c.loop-at.invariant.alone f stood);
      silent = silent_next c.args.nodes.now c.args.from c.loop-at.at c.args.to (c.loop-at.at + 1) c.loop-at.invariant.silent c.loop-at-test.true ends;
      quiet = node_unfailed (setting_of g.H.NamedFilters.named c.args.context.now) c.args.context.now.depth c.args.nodes.now c.loop-at.at c.args.to c.in_ok-run_text.field-0 (place c.loop-at.out c.loop-at.state) (place c.run_text.new.out c.run_text.new.state) is_node
          (leaf_performs (setting_of g.H.NamedFilters.named c.args.context.now) c.args.context.now.depth c.args.nodes.now c.loop-at.at c.args.to c.index-nodes-at.result _ (tree.plain (string_bytes c.in-Text.text)) (Ok c.in_ok-run_text.field-0) (place c.loop-at.out c.loop-at.state) (place c.run_text.new.out c.run_text.new.state) is_node c.index-nodes-at.is c.in-Text.is refl
          (subst (λ x. Performs (Ok c.in_ok-run_text.field-0) (node_meant (setting_of g.H.NamedFilters.named c.args.context.now) c.args.context.now.depth (tree.plain x)) (place c.loop-at.out c.loop-at.state) (place c.run_text.new.out c.run_text.new.state)) c.as_str.ensures.value c.in_ok-run_text.ensures.performs)) ∙ c.loop-at.invariant.quiet;
      loops = c.run_text.ensures.loops ∙ c.loop-at.invariant.loops;
      same_writer = c.run_text.ensures.same_writer ∙ c.loop-at.invariant.same_writer;
      bounded = less_then c.run_text.ensures.bounded c.loop-at.invariant.bounded;
      limited = c.run_text.ensures.limited ∙ c.loop-at.invariant.limited;
    }

-- ---- the turns of another node

pub run_range-grant_node-requires : goal.run_range-grant_node-requires
run_range-grant_node-requires g t c =
    let place = configuration_of g.W.CountedWrite.contents g.W.CountedWrite.failure_count in
    going_node (setting_of g.H.NamedFilters.named c.args.context.now) c.args.context.now.depth c.args.nodes.now c.args.from c.loop-at.at c.args.to (place c.args.out.now c.args.state.now) (place c.loop-at.out c.loop-at.state) c.requires c.loop-at.invariant.going c.loop-at-test.true

pub run_range-returns-in_err-turns-clause-performs : goal.run_range-returns-in_err-turns-clause-performs
run_range-returns-in_err-turns-clause-performs g t c f stood =
    let place = configuration_of g.W.CountedWrite.contents g.W.CountedWrite.failure_count in
    let p = err_from_is_err_and c.from_residual-in_err-turns.result c.from_residual-in_err-turns.ensures.1 in
    rw (p.1, p.2) (going_fault (setting_of g.H.NamedFilters.named c.args.context.now) c.args.context.now.depth c.args.nodes.now c.args.from c.loop-at.at c.args.to c.in_err-turns.field-0.0 (place c.args.out.now c.args.state.now) (place c.loop-at.out c.loop-at.state) (place c.grant_node.new.out c.loop-at.state) c.loop-at.invariant.going c.loop-at-test.true
    (λ n next there. may_not_begin c.in_err-turns.field-0.0 (node_meant (setting_of g.H.NamedFilters.named c.args.context.now) c.args.context.now.depth n) _ _ _ _ c.in_err-turns.ensures.refused) f stood)

pub run_range-returns-in_err-turns-clause-alone : goal.run_range-returns-in_err-turns-clause-alone
run_range-returns-in_err-turns-clause-alone g t c f stood = c.loop-at.invariant.alone f stood

pub run_range-returns-in_err-turns-clause-kept : goal.run_range-returns-in_err-turns-clause-kept
run_range-returns-in_err-turns-clause-kept g t c f stood = c.loop-at.invariant.kept f stood

pub run_range-returns-in_err-turns-clause-silent : goal.run_range-returns-in_err-turns-clause-silent
run_range-returns-in_err-turns-clause-silent g t c f stood are = inr (c.in_err-turns.ensures.stopped ∙ ap raised c.loop-at.invariant.quiet)

-- ---- another node of a range

pub run_range-run_node-requires : goal.run_range-run_node-requires
run_range-run_node-requires g t c κs within =
    let place = configuration_of g.W.CountedWrite.contents g.W.CountedWrite.failure_count in
    (let lt : 4 * (c.args.to - c.loop-at.at) + reserve c.args.context.now.depth c.args.context.now.partials.now < t = omega arith in lt, (within.0, (within.1, going_node (setting_of g.H.NamedFilters.named c.args.context.now) c.args.context.now.depth c.args.nodes.now c.args.from c.loop-at.at c.args.to (place c.args.out.now c.args.state.now) (place c.loop-at.out c.loop-at.state) c.requires c.loop-at.invariant.going c.loop-at-test.true)))

pub run_range-returns-in-Err-clause-performs : goal.run_range-returns-in-Err-clause-performs
run_range-returns-in-Err-clause-performs g t c f stood =
    let place = configuration_of g.W.CountedWrite.contents g.W.CountedWrite.failure_count in
    ((going_fault (setting_of g.H.NamedFilters.named c.args.context.now) c.args.context.now.depth c.args.nodes.now c.args.from c.loop-at.at c.args.to _ (place c.args.out.now c.args.state.now) (place c.loop-at.out c.loop-at.state) (place c.run_node.new.out c.run_node.new.state) c.loop-at.invariant.going c.loop-at-test.true (node_from (setting_of g.H.NamedFilters.named c.args.context.now) c.args.context.now.depth c.args.nodes.now c.loop-at.at _ _ _ (environment_of c.loop-at.state) _ c.in_ok-turns.ensures.goes_on (λ n next there. fault_again c.in-Err.fault c.located.result c.located.ensures (c.in-Err.ensures.performs n next there)))) f stood)

pub run_range-returns-in-Err-clause-alone : goal.run_range-returns-in-Err-clause-alone
run_range-returns-in-Err-clause-alone g t c f stood =
    let place = configuration_of g.W.CountedWrite.contents g.W.CountedWrite.failure_count in
    alone_step (setting_of g.H.NamedFilters.named c.args.context.now) c.args.context.now.depth c.args.nodes.now c.args.from c.loop-at.at c.args.to (place c.args.out.now c.args.state.now) (place c.loop-at.out c.loop-at.state) c.args.state.now c.loop-at.state c.run_node.new.state f stood c.loop-at.invariant.going c.loop-at-test.true c.run_node.ensures.alone (c.loop-at.invariant.alone f stood)

pub run_range-returns-in-Err-clause-kept : goal.run_range-returns-in-Err-clause-kept
run_range-returns-in-Err-clause-kept g t c f stood =
    let place = configuration_of g.W.CountedWrite.contents g.W.CountedWrite.failure_count in
    kept_step (setting_of g.H.NamedFilters.named c.args.context.now) c.args.context.now.depth c.args.nodes.now c.args.from c.loop-at.at c.args.to (place c.args.out.now c.args.state.now) (place c.loop-at.out c.loop-at.state) c.args.state.now c.loop-at.state c.run_node.new.state f stood c.loop-at.invariant.going c.loop-at-test.true c.run_node.ensures.kept (c.loop-at.invariant.kept f stood)

pub run_range-returns-then-is_some-2-clause-performs : goal.run_range-returns-then-is_some-2-clause-performs
run_range-returns-then-is_some-2-clause-performs g t c f stood =
    let place = configuration_of g.W.CountedWrite.contents g.W.CountedWrite.failure_count in
    let some = some_of c.run_node.new.state.interrupt (search rules) in
    ((going_halt (setting_of g.H.NamedFilters.named c.args.context.now) c.args.context.now.depth c.args.nodes.now c.args.from c.loop-at.at c.args.to _ _ some.0 (place c.args.out.now c.args.state.now) (place c.loop-at.out c.loop-at.state) (place c.run_node.new.out c.run_node.new.state) c.loop-at.invariant.going c.loop-at-test.true (node_from (setting_of g.H.NamedFilters.named c.args.context.now) c.args.context.now.depth c.args.nodes.now c.loop-at.at _ _ _ (environment_of c.loop-at.state) _ c.in_ok-turns.ensures.goes_on c.in_default-run_node.ensures.performs) (interrupt_of c.run_node.new.state _ some.1)) f stood)

pub run_range-returns-then-is_some-2-clause-alone : goal.run_range-returns-then-is_some-2-clause-alone
run_range-returns-then-is_some-2-clause-alone g t c f stood =
    let place = configuration_of g.W.CountedWrite.contents g.W.CountedWrite.failure_count in
    alone_step (setting_of g.H.NamedFilters.named c.args.context.now) c.args.context.now.depth c.args.nodes.now c.args.from c.loop-at.at c.args.to (place c.args.out.now c.args.state.now) (place c.loop-at.out c.loop-at.state) c.args.state.now c.loop-at.state c.run_node.new.state f stood c.loop-at.invariant.going c.loop-at-test.true c.run_node.ensures.alone (c.loop-at.invariant.alone f stood)

pub run_range-returns-then-is_some-2-clause-kept : goal.run_range-returns-then-is_some-2-clause-kept
run_range-returns-then-is_some-2-clause-kept g t c f stood =
    let place = configuration_of g.W.CountedWrite.contents g.W.CountedWrite.failure_count in
    kept_step (setting_of g.H.NamedFilters.named c.args.context.now) c.args.context.now.depth c.args.nodes.now c.args.from c.loop-at.at c.args.to (place c.args.out.now c.args.state.now) (place c.loop-at.out c.loop-at.state) c.args.state.now c.loop-at.state c.run_node.new.state f stood c.loop-at.invariant.going c.loop-at-test.true c.run_node.ensures.kept (c.loop-at.invariant.kept f stood)

pub run_range-next_after-at-requires : goal.run_range-next_after-at-requires
run_range-next_after-at-requires g t c =
    let place = configuration_of g.W.CountedWrite.contents g.W.CountedWrite.failure_count in
    going_node (setting_of g.H.NamedFilters.named c.args.context.now) c.args.context.now.depth c.args.nodes.now c.args.from c.loop-at.at c.args.to (place c.args.out.now c.args.state.now) (place c.loop-at.out c.loop-at.state) c.requires c.loop-at.invariant.going c.loop-at-test.true

pub run_range-loop-at-smaller : goal.run_range-loop-at-smaller
run_range-loop-at-smaller g t c =
    let place = configuration_of g.W.CountedWrite.contents g.W.CountedWrite.failure_count in
    let past = going_past (setting_of g.H.NamedFilters.named c.args.context.now) c.args.context.now.depth c.args.nodes.now c.args.from c.loop-at.at c.args.to c.next_after-at.result (place c.args.out.now c.args.state.now) (place c.loop-at.out c.loop-at.state) c.requires c.loop-at.invariant.going c.loop-at-test.true c.next_after-at.ensures in
    let lt : c.args.to - c.next_after-at.result < c.args.to - c.loop-at.at = omega arith in
    lt

pub run_range-loop-at-preserved : goal.run_range-loop-at-preserved
run_range-loop-at-preserved g t c =
    let place = configuration_of g.W.CountedWrite.contents g.W.CountedWrite.failure_count in
    let past = going_past (setting_of g.H.NamedFilters.named c.args.context.now) c.args.context.now.depth c.args.nodes.now c.args.from c.loop-at.at c.args.to c.next_after-at.result (place c.args.out.now c.args.state.now) (place c.loop-at.out c.loop-at.state) c.requires c.loop-at.invariant.going c.loop-at-test.true c.next_after-at.ensures in
    let none = none_of c.run_node.new.state.interrupt (search rules) in
    record {
      ordered = omega arith;
      going = going_on (setting_of g.H.NamedFilters.named c.args.context.now) c.args.context.now.depth c.args.nodes.now c.args.from c.loop-at.at c.args.to c.next_after-at.result _ (place c.args.out.now c.args.state.now) (place c.loop-at.out c.loop-at.state) (place c.run_node.new.out c.run_node.new.state) c.loop-at.invariant.going c.loop-at-test.true (node_from (setting_of g.H.NamedFilters.named c.args.context.now) c.args.context.now.depth c.args.nodes.now c.loop-at.at _ _ _ (environment_of c.loop-at.state) _ c.in_ok-turns.ensures.goes_on c.in_default-run_node.ensures.performs) (interrupt_of c.run_node.new.state _ none) c.next_after-at.ensures;
      kept = λ f stood. kept_step (setting_of g.H.NamedFilters.named c.args.context.now) c.args.context.now.depth c.args.nodes.now c.args.from c.loop-at.at c.args.to (place c.args.out.now c.args.state.now) (place c.loop-at.out c.loop-at.state) c.args.state.now c.loop-at.state c.run_node.new.state f stood c.loop-at.invariant.going c.loop-at-test.true c.run_node.ensures.kept (c.loop-at.invariant.kept f stood);
      alone = λ f stood. alone_step (setting_of g.H.NamedFilters.named c.args.context.now) c.args.context.now.depth c.args.nodes.now c.args.from c.loop-at.at c.args.to (place c.args.out.now c.args.state.now) (place c.loop-at.out c.loop-at.state) c.args.state.now c.loop-at.state c.run_node.new.state f stood c.loop-at.invariant.going c.loop-at-test.true c.run_node.ensures.alone (c.loop-at.invariant.alone f stood);
      silent = silent_next c.args.nodes.now c.args.from c.loop-at.at c.args.to c.next_after-at.result c.loop-at.invariant.silent c.loop-at-test.true c.next_after-at.ensures;
      quiet = node_unfailed (setting_of g.H.NamedFilters.named c.args.context.now) c.args.context.now.depth c.args.nodes.now c.loop-at.at c.args.to _ (place c.loop-at.out c.loop-at.state) (place c.run_node.new.out c.run_node.new.state) (going_node (setting_of g.H.NamedFilters.named c.args.context.now) c.args.context.now.depth c.args.nodes.now c.args.from c.loop-at.at c.args.to (place c.args.out.now c.args.state.now) (place c.loop-at.out c.loop-at.state) c.requires c.loop-at.invariant.going c.loop-at-test.true)
          (node_from (setting_of g.H.NamedFilters.named c.args.context.now) c.args.context.now.depth c.args.nodes.now c.loop-at.at _ _ _ (environment_of c.loop-at.state) _ c.in_ok-turns.ensures.goes_on c.in_default-run_node.ensures.performs) ∙ c.loop-at.invariant.quiet;
      loops = c.run_node.ensures.loops ∙ c.loop-at.invariant.loops;
      same_writer = c.run_node.ensures.same_writer ∙ c.grant_node.ensures.same_writer ∙ c.loop-at.invariant.same_writer;
      bounded = less_then c.run_node.ensures.bounded (less_then c.grant_node.ensures.bounded c.loop-at.invariant.bounded);
      limited = c.run_node.ensures.limited ∙ c.grant_node.ensures.limited ∙ c.loop-at.invariant.limited;
    }

pub run_range-returns-clause-performs : goal.run_range-returns-clause-performs
run_range-returns-clause-performs g t c f stood =
    let place = configuration_of g.W.CountedWrite.contents g.W.CountedWrite.failure_count in
    ((going_end (setting_of g.H.NamedFilters.named c.args.context.now) c.args.context.now.depth c.args.nodes.now c.args.from c.loop-at.at c.args.to _ (place c.args.out.now c.args.state.now) (place c.loop-at.out c.loop-at.state) c.loop-at.invariant.going c.loop-at-test.false) f stood)

pub run_node-returns-in-Text-clause-performs : goal.run_node-returns-in-Text-clause-performs
run_node-returns-in-Text-clause-performs g t c =
    let place = configuration_of g.W.CountedWrite.contents g.W.CountedWrite.failure_count in
    leaf_performs (setting_of g.H.NamedFilters.named c.args.context.now) c.args.context.now.depth c.args.nodes.now c.args.at c.args.to c.index-nodes-at.result _ (tree.plain (string_bytes c.in-Text.text)) c.run_text.result (place c.args.out.now c.args.state.now) (place c.run_text.new.out c.run_text.new.state) c.requires c.index-nodes-at.is c.in-Text.is refl
    (subst (λ x. Performs c.run_text.result (node_meant (setting_of g.H.NamedFilters.named c.args.context.now) c.args.context.now.depth (tree.plain x)) (place c.args.out.now c.args.state.now) (place c.run_text.new.out c.run_text.new.state)) c.as_str.ensures.value c.run_text.ensures.performs)

pub run_node-returns-in-Text-clause-kept : goal.run_node-returns-in-Text-clause-kept
run_node-returns-in-Text-clause-kept g t c =
    leaf_keeps (setting_of g.H.NamedFilters.named c.args.context.now) c.args.nodes.now c.args.at c.args.to c.index-nodes-at.result _ (tree.plain (string_bytes c.in-Text.text)) c.args.state.now c.run_text.new.state c.requires c.index-nodes-at.is c.in-Text.is refl
    (subst (λ x. Keeps (node_names (tree.plain x)) (setting_of g.H.NamedFilters.named c.args.context.now) c.args.state.now c.run_text.new.state) c.as_str.ensures.value c.run_text.ensures.kept)

pub run_node-returns-in-Output-clause-performs : goal.run_node-returns-in-Output-clause-performs
run_node-returns-in-Output-clause-performs g t c =
    let place = configuration_of g.W.CountedWrite.contents g.W.CountedWrite.failure_count in
    leaf_performs (setting_of g.H.NamedFilters.named c.args.context.now) c.args.context.now.depth c.args.nodes.now c.args.at c.args.to c.index-nodes-at.result _ (tree.output (chain_view c.in-Output.chain)) c.run_output.result (place c.args.out.now c.args.state.now) (place c.run_output.new.out c.run_output.new.state) c.requires c.index-nodes-at.is c.in-Output.is refl
    c.run_output.ensures.performs

pub run_node-returns-in-Output-clause-kept : goal.run_node-returns-in-Output-clause-kept
run_node-returns-in-Output-clause-kept g t c =
    leaf_keeps (setting_of g.H.NamedFilters.named c.args.context.now) c.args.nodes.now c.args.at c.args.to c.index-nodes-at.result _ (tree.output (chain_view c.in-Output.chain)) c.args.state.now c.run_output.new.state c.requires c.index-nodes-at.is c.in-Output.is refl
    c.run_output.ensures.kept

pub run_node-returns-in-Assign-clause-performs : goal.run_node-returns-in-Assign-clause-performs
run_node-returns-in-Assign-clause-performs g t c =
    let place = configuration_of g.W.CountedWrite.contents g.W.CountedWrite.failure_count in
    leaf_performs (setting_of g.H.NamedFilters.named c.args.context.now) c.args.context.now.depth c.args.nodes.now c.args.at c.args.to c.index-nodes-at.result _ (tree.assign (string_bytes c.in-Assign.name) (chain_view c.in-Assign.chain)) c.run_assign.result (place c.args.out.now c.args.state.now) (place c.run_assign.new.out c.run_assign.new.state) c.requires c.index-nodes-at.is c.in-Assign.is refl
    (subst (λ x. Performs c.run_assign.result (node_meant (setting_of g.H.NamedFilters.named c.args.context.now) c.args.context.now.depth (tree.assign x (chain_view c.in-Assign.chain))) (place c.args.out.now c.args.state.now) (place c.run_assign.new.out c.run_assign.new.state)) c.as_str-in-Assign.ensures.value c.run_assign.ensures.performs)

pub run_node-returns-in-Assign-clause-kept : goal.run_node-returns-in-Assign-clause-kept
run_node-returns-in-Assign-clause-kept g t c =
    leaf_keeps (setting_of g.H.NamedFilters.named c.args.context.now) c.args.nodes.now c.args.at c.args.to c.index-nodes-at.result _ (tree.assign (string_bytes c.in-Assign.name) (chain_view c.in-Assign.chain)) c.args.state.now c.run_assign.new.state c.requires c.index-nodes-at.is c.in-Assign.is refl
    (subst (λ x. Keeps (node_names (tree.assign x (chain_view c.in-Assign.chain))) (setting_of g.H.NamedFilters.named c.args.context.now) c.args.state.now c.run_assign.new.state) c.as_str-in-Assign.ensures.value c.run_assign.ensures.kept)

pub run_node-returns-in-Raw-clause-performs : goal.run_node-returns-in-Raw-clause-performs
run_node-returns-in-Raw-clause-performs g t c =
    let place = configuration_of g.W.CountedWrite.contents g.W.CountedWrite.failure_count in
    leaf_performs (setting_of g.H.NamedFilters.named c.args.context.now) c.args.context.now.depth c.args.nodes.now c.args.at c.args.to c.index-nodes-at.result _ (tree.raw (string_bytes c.in-Raw.text)) c.run_raw.result (place c.args.out.now c.args.state.now) (place c.run_raw.new.out c.run_raw.new.state) c.requires c.index-nodes-at.is c.in-Raw.is refl
    (subst (λ x. Performs c.run_raw.result (node_meant (setting_of g.H.NamedFilters.named c.args.context.now) c.args.context.now.depth (tree.raw x)) (place c.args.out.now c.args.state.now) (place c.run_raw.new.out c.run_raw.new.state)) c.as_str-in-Raw.ensures.value c.run_raw.ensures.performs)

pub run_node-returns-in-Raw-clause-kept : goal.run_node-returns-in-Raw-clause-kept
run_node-returns-in-Raw-clause-kept g t c =
    leaf_keeps (setting_of g.H.NamedFilters.named c.args.context.now) c.args.nodes.now c.args.at c.args.to c.index-nodes-at.result _ (tree.raw (string_bytes c.in-Raw.text)) c.args.state.now c.run_raw.new.state c.requires c.index-nodes-at.is c.in-Raw.is refl
    (subst (λ x. Keeps (node_names (tree.raw x)) (setting_of g.H.NamedFilters.named c.args.context.now) c.args.state.now c.run_raw.new.state) c.as_str-in-Raw.ensures.value c.run_raw.ensures.kept)

pub run_node-returns-in-Comment-clause-performs : goal.run_node-returns-in-Comment-clause-performs
run_node-returns-in-Comment-clause-performs g t c =
    let place = configuration_of g.W.CountedWrite.contents g.W.CountedWrite.failure_count in
    leaf_performs (setting_of g.H.NamedFilters.named c.args.context.now) c.args.context.now.depth c.args.nodes.now c.args.at c.args.to c.index-nodes-at.result _ tree.comment (Ok tt) (place c.args.out.now c.args.state.now) (place c.args.out.now c.args.state.now) c.requires c.index-nodes-at.is c.in-Comment.is refl
    (by_rule (comment_rule _ _) (done_met tt (place c.args.out.now c.args.state.now)))

pub run_node-returns-in-Comment-clause-kept : goal.run_node-returns-in-Comment-clause-kept
run_node-returns-in-Comment-clause-kept g t c =
    leaf_keeps (setting_of g.H.NamedFilters.named c.args.context.now) c.args.nodes.now c.args.at c.args.to c.index-nodes-at.result _ tree.comment c.args.state.now c.args.state.now c.requires c.index-nodes-at.is c.in-Comment.is refl
    (λ N names inside. kept_same N _ _ refl)

pub run_node-returns-in-Text-clause-alone : goal.run_node-returns-in-Text-clause-alone
run_node-returns-in-Text-clause-alone g t c = leaf_other c.args.nodes.now c.args.at c.args.to c.index-nodes-at.result _ (tree.plain (string_bytes c.in-Text.text)) c.args.state.now c.run_text.new.state c.requires c.index-nodes-at.is c.in-Text.is refl (λ no. absurd no)

pub run_node-returns-in-Output-clause-alone : goal.run_node-returns-in-Output-clause-alone
run_node-returns-in-Output-clause-alone g t c = leaf_other c.args.nodes.now c.args.at c.args.to c.index-nodes-at.result _ (tree.output (chain_view c.in-Output.chain)) c.args.state.now c.run_output.new.state c.requires c.index-nodes-at.is c.in-Output.is refl (λ no. absurd no)

pub run_node-returns-in-Assign-clause-alone : goal.run_node-returns-in-Assign-clause-alone
run_node-returns-in-Assign-clause-alone g t c = leaf_other c.args.nodes.now c.args.at c.args.to c.index-nodes-at.result _ (tree.assign (string_bytes c.in-Assign.name) (chain_view c.in-Assign.chain)) c.args.state.now c.run_assign.new.state c.requires c.index-nodes-at.is c.in-Assign.is refl (λ no. absurd no)

pub run_node-returns-in-Raw-clause-alone : goal.run_node-returns-in-Raw-clause-alone
run_node-returns-in-Raw-clause-alone g t c = leaf_other c.args.nodes.now c.args.at c.args.to c.index-nodes-at.result _ (tree.raw (string_bytes c.in-Raw.text)) c.args.state.now c.run_raw.new.state c.requires c.index-nodes-at.is c.in-Raw.is refl (λ no. absurd no)

pub run_node-returns-in-Capture-clause-alone : goal.run_node-returns-in-Capture-clause-alone
run_node-returns-in-Capture-clause-alone g t c = one_other c.args.nodes.now c.args.at c.in-Capture.end c.args.to c.index-nodes-at.result _ (tree.capture (string_bytes c.in-Capture.name)) c.args.state.now c.run_capture.new.state c.requires c.index-nodes-at.is c.in-Capture.is refl (λ b no. absurd no)

pub run_node-returns-in-Include-clause-alone : goal.run_node-returns-in-Include-clause-alone
run_node-returns-in-Include-clause-alone g t c = leaf_other c.args.nodes.now c.args.at c.args.to c.index-nodes-at.result _ (tree.include (expression_view c.in-Include.name) (bindings_view c.in-Include.bindings.items)) c.args.state.now c.run_include.new.state c.requires c.index-nodes-at.is c.in-Include.is refl (λ no. absurd no)

pub run_node-returns-in-Break-clause-performs : goal.run_node-returns-in-Break-clause-performs
run_node-returns-in-Break-clause-performs g t c =
    let place = configuration_of g.W.CountedWrite.contents g.W.CountedWrite.failure_count in
    leaf_performs (setting_of g.H.NamedFilters.named c.args.context.now) c.args.context.now.depth c.args.nodes.now c.args.at c.args.to c.index-nodes-at.result _ tree.break_loop (Ok tt) (place c.args.out.now c.args.state.now) _ c.requires c.index-nodes-at.is c.in-Break.is refl
    (by_rule (break_rule _ _) (change_met (Ok tt) (interrupted_by (Some interrupts.Break)) _ (environment_of c.args.state.now) _ (ap merged_layers (interrupt_set c.args.state.now (Some interrupts.Break)))))

pub run_node-returns-in-Break-clause-kept : goal.run_node-returns-in-Break-clause-kept
run_node-returns-in-Break-clause-kept g t c =
    leaf_keeps (setting_of g.H.NamedFilters.named c.args.context.now) c.args.nodes.now c.args.at c.args.to c.index-nodes-at.result _ tree.break_loop c.args.state.now _ c.requires c.index-nodes-at.is c.in-Break.is refl
    (λ N names inside. kept_interrupt N (Some interrupts.Break) (layers_of c.args.state.now) _ (interrupt_set c.args.state.now (Some interrupts.Break)))

pub run_node-returns-in-Break-clause-alone : goal.run_node-returns-in-Break-clause-alone
run_node-returns-in-Break-clause-alone g t c =
    leaf_other c.args.nodes.now c.args.at c.args.to c.index-nodes-at.result _ tree.break_loop c.args.state.now _ c.requires c.index-nodes-at.is c.in-Break.is refl (λ no. absurd no)

pub run_node-returns-in-Continue-clause-performs : goal.run_node-returns-in-Continue-clause-performs
run_node-returns-in-Continue-clause-performs g t c =
    let place = configuration_of g.W.CountedWrite.contents g.W.CountedWrite.failure_count in
    leaf_performs (setting_of g.H.NamedFilters.named c.args.context.now) c.args.context.now.depth c.args.nodes.now c.args.at c.args.to c.index-nodes-at.result _ tree.continue_loop (Ok tt) (place c.args.out.now c.args.state.now) _ c.requires c.index-nodes-at.is c.in-Continue.is refl
    (by_rule (continue_rule _ _) (change_met (Ok tt) (interrupted_by (Some interrupts.Continue)) _ (environment_of c.args.state.now) _ (ap merged_layers (interrupt_set c.args.state.now (Some interrupts.Continue)))))

pub run_node-returns-in-Continue-clause-kept : goal.run_node-returns-in-Continue-clause-kept
run_node-returns-in-Continue-clause-kept g t c =
    leaf_keeps (setting_of g.H.NamedFilters.named c.args.context.now) c.args.nodes.now c.args.at c.args.to c.index-nodes-at.result _ tree.continue_loop c.args.state.now _ c.requires c.index-nodes-at.is c.in-Continue.is refl
    (λ N names inside. kept_interrupt N (Some interrupts.Continue) (layers_of c.args.state.now) _ (interrupt_set c.args.state.now (Some interrupts.Continue)))

pub run_node-returns-in-Continue-clause-alone : goal.run_node-returns-in-Continue-clause-alone
run_node-returns-in-Continue-clause-alone g t c =
    leaf_other c.args.nodes.now c.args.at c.args.to c.index-nodes-at.result _ tree.continue_loop c.args.state.now _ c.requires c.index-nodes-at.is c.in-Continue.is refl (λ no. absurd no)

pub run_node-run_capture-requires : goal.run_node-run_capture-requires
run_node-run_capture-requires g t c κs within =
    let (body, past, inside) = one c.args.nodes.now c.args.at c.in-Capture.end c.args.to c.index-nodes-at.result _ (tree.capture (string_bytes c.in-Capture.name)) c.requires c.index-nodes-at.is c.in-Capture.is refl in
    (let lt : 4 * (c.in-Capture.end - c.args.at) - 1 + reserve c.args.context.now.depth c.args.context.now.partials.now < t = omega arith in lt, (within.0, (within.1, body)))

pub run_node-returns-in-Capture-clause-performs : goal.run_node-returns-in-Capture-clause-performs
run_node-returns-in-Capture-clause-performs g t c =
    let place = configuration_of g.W.CountedWrite.contents g.W.CountedWrite.failure_count in
    one_performs (setting_of g.H.NamedFilters.named c.args.context.now) c.args.context.now.depth c.args.nodes.now c.args.at c.in-Capture.end c.args.to c.index-nodes-at.result _ (tree.capture (string_bytes c.in-Capture.name)) c.run_capture.result (place c.args.out.now c.args.state.now) (place c.run_capture.new.out c.run_capture.new.state) c.requires c.index-nodes-at.is c.in-Capture.is refl
    (subst (λ x. (b : Forest Maker) → IsForestAt c.args.nodes.now (c.args.at + 1) b c.in-Capture.end → Performs c.run_capture.result (node_meant (setting_of g.H.NamedFilters.named c.args.context.now) c.args.context.now.depth (tree.capture x (nodes_of b))) (place c.args.out.now c.args.state.now) (place c.run_capture.new.out c.run_capture.new.state)) c.as_str-in-Capture.ensures.value c.run_capture.ensures.performs)

pub run_node-returns-in-Capture-clause-kept : goal.run_node-returns-in-Capture-clause-kept
run_node-returns-in-Capture-clause-kept g t c =
    one_keeps (setting_of g.H.NamedFilters.named c.args.context.now) c.args.nodes.now c.args.at c.in-Capture.end c.args.to c.index-nodes-at.result _ (tree.capture (string_bytes c.in-Capture.name)) c.args.state.now c.run_capture.new.state c.requires c.index-nodes-at.is c.in-Capture.is refl
    (subst (λ x. (b : Forest Maker) → IsForestAt c.args.nodes.now (c.args.at + 1) b c.in-Capture.end → Keeps (node_names (tree.capture x (nodes_of b))) (setting_of g.H.NamedFilters.named c.args.context.now) c.args.state.now c.run_capture.new.state) c.as_str-in-Capture.ensures.value c.run_capture.ensures.kept)

pub run_node-run_include-requires : goal.run_node-run_include-requires
run_node-run_include-requires g t c κs within =
    let before = node_before c.args.nodes.now c.args.at c.args.to c.requires in
    (let lt : reserve c.args.context.now.depth c.args.context.now.partials.now + 2 < t = omega arith in lt, within)

pub run_node-returns-in-Include-clause-performs : goal.run_node-returns-in-Include-clause-performs
run_node-returns-in-Include-clause-performs g t c =
    let place = configuration_of g.W.CountedWrite.contents g.W.CountedWrite.failure_count in
    leaf_performs (setting_of g.H.NamedFilters.named c.args.context.now) c.args.context.now.depth c.args.nodes.now c.args.at c.args.to c.index-nodes-at.result _ (tree.include (expression_view c.in-Include.name) (bindings_view c.in-Include.bindings.items)) c.run_include.result (place c.args.out.now c.args.state.now) (place c.run_include.new.out c.run_include.new.state) c.requires c.index-nodes-at.is c.in-Include.is refl
    (subst (λ x. Performs c.run_include.result (node_meant (setting_of g.H.NamedFilters.named c.args.context.now) c.args.context.now.depth (tree.include (expression_view c.in-Include.name) (bindings_view x))) (place c.args.out.now c.args.state.now) (place c.run_include.new.out c.run_include.new.state)) c.deref-in-Include.ensures.value c.run_include.ensures.performs)

pub run_node-returns-in-Include-clause-kept : goal.run_node-returns-in-Include-clause-kept
run_node-returns-in-Include-clause-kept g t c =
    leaf_keeps (setting_of g.H.NamedFilters.named c.args.context.now) c.args.nodes.now c.args.at c.args.to c.index-nodes-at.result _ (tree.include (expression_view c.in-Include.name) (bindings_view c.in-Include.bindings.items)) c.args.state.now c.run_include.new.state c.requires c.index-nodes-at.is c.in-Include.is refl
    (subst (λ x. Keeps (node_names (tree.include (expression_view c.in-Include.name) (bindings_view x))) (setting_of g.H.NamedFilters.named c.args.context.now) c.args.state.now c.run_include.new.state) c.deref-in-Include.ensures.value c.run_include.ensures.kept)

pub run_node-run_jekyll_include-requires : goal.run_node-run_jekyll_include-requires
run_node-run_jekyll_include-requires g t c κs within =
    let before = node_before c.args.nodes.now c.args.at c.args.to c.requires in
    (let lt : reserve c.args.context.now.depth c.args.context.now.partials.now + 2 < t = omega arith in lt, within)

pub run_node-returns-in-JekyllInclude-clause-performs : goal.run_node-returns-in-JekyllInclude-clause-performs
run_node-returns-in-JekyllInclude-clause-performs g t c =
    let place = configuration_of g.W.CountedWrite.contents g.W.CountedWrite.failure_count in
    let after = place c.run_jekyll_include.new.out c.run_jekyll_include.new.state in
    leaf_performs (setting_of g.H.NamedFilters.named c.args.context.now) c.args.context.now.depth c.args.nodes.now c.args.at c.args.to c.index-nodes-at.result _ (tree.jekyll_include (string_bytes c.in-JekyllInclude.name) (bindings_view c.in-JekyllInclude.bindings.items)) c.run_jekyll_include.result (place c.args.out.now c.args.state.now) after c.requires c.index-nodes-at.is c.in-JekyllInclude.is refl
    (subst (λ x. Performs c.run_jekyll_include.result (node_meant (setting_of g.H.NamedFilters.named c.args.context.now) c.args.context.now.depth (tree.jekyll_include x (bindings_view c.in-JekyllInclude.bindings.items))) (place c.args.out.now c.args.state.now) after) c.as_str-in-JekyllInclude.ensures.value
    (subst (λ x. Performs c.run_jekyll_include.result (node_meant (setting_of g.H.NamedFilters.named c.args.context.now) c.args.context.now.depth (tree.jekyll_include c.as_str-in-JekyllInclude.result.now (bindings_view x))) (place c.args.out.now c.args.state.now) after) c.deref-in-JekyllInclude.ensures.value c.run_jekyll_include.ensures.performs))

pub run_node-returns-in-JekyllInclude-clause-kept : goal.run_node-returns-in-JekyllInclude-clause-kept
run_node-returns-in-JekyllInclude-clause-kept g t c =
    leaf_keeps (setting_of g.H.NamedFilters.named c.args.context.now) c.args.nodes.now c.args.at c.args.to c.index-nodes-at.result _ (tree.jekyll_include (string_bytes c.in-JekyllInclude.name) (bindings_view c.in-JekyllInclude.bindings.items)) c.args.state.now c.run_jekyll_include.new.state c.requires c.index-nodes-at.is c.in-JekyllInclude.is refl
    (subst (λ x. Keeps (node_names (tree.jekyll_include x (bindings_view c.in-JekyllInclude.bindings.items))) (setting_of g.H.NamedFilters.named c.args.context.now) c.args.state.now c.run_jekyll_include.new.state) c.as_str-in-JekyllInclude.ensures.value
    (subst (λ x. Keeps (node_names (tree.jekyll_include c.as_str-in-JekyllInclude.result.now (bindings_view x))) (setting_of g.H.NamedFilters.named c.args.context.now) c.args.state.now c.run_jekyll_include.new.state) c.deref-in-JekyllInclude.ensures.value c.run_jekyll_include.ensures.kept))

pub run_node-returns-in-JekyllInclude-clause-alone : goal.run_node-returns-in-JekyllInclude-clause-alone
run_node-returns-in-JekyllInclude-clause-alone g t c = leaf_other c.args.nodes.now c.args.at c.args.to c.index-nodes-at.result _ (tree.jekyll_include (string_bytes c.in-JekyllInclude.name) (bindings_view c.in-JekyllInclude.bindings.items)) c.args.state.now c.run_jekyll_include.new.state c.requires c.index-nodes-at.is c.in-JekyllInclude.is refl (λ no. absurd no)

pub run_node-run_render-requires : goal.run_node-run_render-requires
run_node-run_render-requires g t c κs within =
    let before = node_before c.args.nodes.now c.args.at c.args.to c.requires in
    (let lt : reserve c.args.context.now.depth c.args.context.now.partials.now + 2 < t = omega arith in lt, within)

pub run_node-returns-in-Render-clause-performs : goal.run_node-returns-in-Render-clause-performs
run_node-returns-in-Render-clause-performs g t c =
    let place = configuration_of g.W.CountedWrite.contents g.W.CountedWrite.failure_count in
    leaf_performs (setting_of g.H.NamedFilters.named c.args.context.now) c.args.context.now.depth c.args.nodes.now c.args.at c.args.to c.index-nodes-at.result _ (tree.render (expression_view c.in-Render.name) None (bindings_view c.in-Render.bindings.items)) c.run_render.result (place c.args.out.now c.args.state.now) (place c.run_render.new.out c.args.state.now) c.requires c.index-nodes-at.is c.in-Render.is refl
    (subst (λ x. Performs c.run_render.result (node_meant (setting_of g.H.NamedFilters.named c.args.context.now) c.args.context.now.depth (tree.render (expression_view c.in-Render.name) None (bindings_view x))) (place c.args.out.now c.args.state.now) (place c.run_render.new.out c.args.state.now)) c.deref-in-Render.ensures.value c.run_render.ensures.performs)

pub run_node-run_render_each-requires : goal.run_node-run_render_each-requires
run_node-run_render_each-requires g t c κs within =
    let before = node_before c.args.nodes.now c.args.at c.args.to c.requires in
    (let lt : reserve c.args.context.now.depth c.args.context.now.partials.now + 3 < t = omega arith in lt, within)

pub run_node-returns-in-RenderEach-clause-performs : goal.run_node-returns-in-RenderEach-clause-performs
run_node-returns-in-RenderEach-clause-performs g t c =
    let place = configuration_of g.W.CountedWrite.contents g.W.CountedWrite.failure_count in
    leaf_performs (setting_of g.H.NamedFilters.named c.args.context.now) c.args.context.now.depth c.args.nodes.now c.args.at c.args.to c.index-nodes-at.result _ (tree.render (expression_view c.in-RenderEach.name) (Some (each_view c.in-RenderEach.each)) (bindings_view c.in-RenderEach.bindings.items)) c.run_render_each.result (place c.args.out.now c.args.state.now) (place c.run_render_each.new.out c.args.state.now) c.requires c.index-nodes-at.is c.in-RenderEach.is refl
    (subst (λ x. Performs c.run_render_each.result (node_meant (setting_of g.H.NamedFilters.named c.args.context.now) c.args.context.now.depth (tree.render (expression_view c.in-RenderEach.name) (Some (each_view c.in-RenderEach.each)) (bindings_view x))) (place c.args.out.now c.args.state.now) (place c.run_render_each.new.out c.args.state.now)) c.deref-in-RenderEach.ensures.value c.run_render_each.ensures.performs)

pub buffers::run_capture-overflow_add-at : goal.buffers::run_capture-overflow_add-at
buffers::run_capture-overflow_add-at g t c =
    let body : IsNodeRange c.args.nodes.now (c.args.at + 1) c.args.end = search rules in
    let (b, here) = body in
    let le : c.args.at + 1 ≤ c.args.end = Stands-le (flats c.args.nodes.now) (c.args.at + 1) b c.args.end here in
    search rules

pub buffers::run_capture-run_range-answer-requires : goal.buffers::run_capture-run_range-answer-requires
buffers::run_capture-run_range-answer-requires g t c κs within =
    let body : IsNodeRange c.args.nodes.now (c.args.at + 1) c.args.end = search rules in
    let (b, here) = body in
    let le : c.args.at + 1 ≤ c.args.end = Stands-le (flats c.args.nodes.now) (c.args.at + 1) b c.args.end here in
    (let lt : 4 * (c.args.end - (c.args.at + 1)) + 1 + reserve c.args.context.now.depth c.args.context.now.partials.now < t = omega arith in lt, (within.0, (within.1, body)))

pub buffers::run_capture-returns-in_err-answer-clause-performs : goal.buffers::run_capture-returns-in_err-answer-clause-performs
buffers::run_capture-returns-in_err-answer-clause-performs g t c b here =
    let sink = sink_of g.W.CountedWrite.contents g.W.CountedWrite.failure_count in
    let around = around_buffer g.W.CountedWrite.contents g.W.CountedWrite.failure_count c.args.out.now c.open-outer.new.self c.run_range-answer.new.out c.close-text.new.self c.open-outer.result c.close-text.result
    c.open-outer.ensures.outer c.open-outer.ensures.empty c.open-outer.ensures.writer c.close-text.ensures.text c.close-text.ensures.outer c.close-text.ensures.writer in
    let m = nodes_meant (setting_of g.H.NamedFilters.named c.args.context.now) c.args.context.now.depth (nodes_of b) in
    let e = environment_of c.args.state.now in
    let mid = environment_of c.run_range-answer.new.state in
    let p = err_from_is_err_and c.from_residual.result c.from_residual.ensures.1 in
    rw (p.1, p.2) (by_rule (capture_rule (setting_of g.H.NamedFilters.named c.args.context.now) (deeper_meaning (setting_of g.H.NamedFilters.named c.args.context.now) c.args.context.now.depth) c.args.name.now (nodes_of b)) (bind_faulted (λ x. x) unit _ (buffered m) (λ x. change (assigned_to c.args.name.now (text x))) _ _ (buffered_faulted unit (λ x. x) _ m (sink c.args.out.now) (sink c.open-outer.new.self) (sink c.run_range-answer.new.out) (sink c.close-text.new.self) (string_bytes c.close-text.result) e mid around (c.in_err-answer.ensures.performs b here))))

pub buffers::run_capture-returns-in_err-from_str-clause-performs : goal.buffers::run_capture-returns-in_err-from_str-clause-performs
buffers::run_capture-returns-in_err-from_str-clause-performs g t c b here =
    let sink = sink_of g.W.CountedWrite.contents g.W.CountedWrite.failure_count in
    let around = around_buffer g.W.CountedWrite.contents g.W.CountedWrite.failure_count c.args.out.now c.open-outer.new.self c.run_range-answer.new.out c.close-text.new.self c.open-outer.result c.close-text.result
    c.open-outer.ensures.outer c.open-outer.ensures.empty c.open-outer.ensures.writer c.close-text.ensures.text c.close-text.ensures.outer c.close-text.ensures.writer in
    let m = nodes_meant (setting_of g.H.NamedFilters.named c.args.context.now) c.args.context.now.depth (nodes_of b) in
    let e = environment_of c.args.state.now in
    let mid = environment_of c.run_range-answer.new.state in
    let p = err_from_is_err_and c.from_residual-in_err-from_str.result c.from_residual-in_err-from_str.ensures.1 in
    rw p.1 (buffered_memory unit unit _ _ m _ (sink c.args.out.now) (sink c.open-outer.new.self) (sink c.run_range-answer.new.out) (sink c.close-text.new.self) (string_bytes c.close-text.result) e mid _ around (c.in_ok-answer.ensures.performs b here) p.2)

pub buffers::run_capture-returns-clause-performs : goal.buffers::run_capture-returns-clause-performs
buffers::run_capture-returns-clause-performs g t c b here =
    let sink = sink_of g.W.CountedWrite.contents g.W.CountedWrite.failure_count in
    let around = around_buffer g.W.CountedWrite.contents g.W.CountedWrite.failure_count c.args.out.now c.open-outer.new.self c.run_range-answer.new.out c.close-text.new.self c.open-outer.result c.close-text.result
    c.open-outer.ensures.outer c.open-outer.ensures.empty c.open-outer.ensures.writer c.close-text.ensures.text c.close-text.ensures.outer c.close-text.ensures.writer in
    let m = nodes_meant (setting_of g.H.NamedFilters.named c.args.context.now) c.args.context.now.depth (nodes_of b) in
    let e = environment_of c.args.state.now in
    let mid = environment_of c.run_range-answer.new.state in
    let stored : IsValueOrMemory (λ _. layers_of c.set_global.new.self) c.set_global.result (with_assigned c.args.name.now (text (string_bytes c.close-text.result)) (layers_of c.run_range-answer.new.state)) = search (rules, view-Text) in
    by_rule (capture_rule (setting_of g.H.NamedFilters.named c.args.context.now) (deeper_meaning (setting_of g.H.NamedFilters.named c.args.context.now) c.args.context.now.depth) c.args.name.now (nodes_of b)) (bind_met (λ x. x) unit (string_bytes c.close-text.result) c.set_global.result (buffered m) (λ x. change (assigned_to c.args.name.now (text x))) _ (record { sink = sink c.close-text.new.self; environment = mid }) _
    (buffered_met unit _ m (sink c.args.out.now) (sink c.open-outer.new.self) (sink c.run_range-answer.new.out) (sink c.close-text.new.self) (string_bytes c.close-text.result) e mid around (c.in_ok-answer.ensures.performs b here))
    (change_met c.set_global.result (assigned_to c.args.name.now (text (string_bytes c.close-text.result))) _ mid _ (gives_merged c.set_global.result _ _ stored)))

pub buffers::run_capture-returns-clause-kept : goal.buffers::run_capture-returns-clause-kept
unfolding node_names
buffers::run_capture-returns-clause-kept g t c b here N names inside =
    let stored : IsValueOrMemory (λ _. layers_of c.set_global.new.self) c.set_global.result (with_assigned c.args.name.now (text (string_bytes c.close-text.result)) (layers_of c.run_range-answer.new.state)) = search (rules, view-Text) in
    kept_after N _ _ _ (c.run_range-answer.ensures.kept b here N names.1 inside)
    (kept_assigned N c.args.name.now (text (string_bytes c.close-text.result)) (layers_of c.run_range-answer.new.state) (layers_of c.set_global.new.self) c.set_global.result names.0 stored c.set_global.ensures.unchanged)

pub buffers::run_capture-returns-in_err-answer-clause-kept : goal.buffers::run_capture-returns-in_err-answer-clause-kept
unfolding node_names
buffers::run_capture-returns-in_err-answer-clause-kept g t c b here N names inside =
    c.run_range-answer.ensures.kept b here N names.1 inside

pub buffers::run_capture-returns-in_err-from_str-clause-kept : goal.buffers::run_capture-returns-in_err-from_str-clause-kept
unfolding node_names
buffers::run_capture-returns-in_err-from_str-clause-kept g t c b here N names inside =
    c.run_range-answer.ensures.kept b here N names.1 inside

pub run_include-returns-in_err-called-clause-performs : goal.run_include-returns-in_err-called-clause-performs
run_include-returns-in_err-called-clause-performs g t c =
    let sink = sink_of g.W.CountedWrite.contents g.W.CountedWrite.failure_count in
    let place = configuration_of g.W.CountedWrite.contents g.W.CountedWrite.failure_count in
    let setting = setting_of g.H.NamedFilters.named c.args.context.now in
    let depth = c.args.context.now.depth in
    let bs = bindings_view c.args.bindings.now in
    let p = err_from_is_err_and c.from_residual.result c.from_residual.ensures.1 in
    rw (p.1, p.2) (subst (λ l. Performs (Err c.in_err-called.field-0.0) (node_meaning setting (deeper_meaning setting depth) (tree.include (expression_view c.args.name.now) bs)) (place c.args.out.now c.args.state.now) (record { sink = sink c.args.out.now; environment = merged_layers l })) (sym c.in_err-called.ensures.entered.1)
    (include_refused setting depth (expression_view c.args.name.now) bs c.in_err-called.field-0.0 (place c.args.out.now c.args.state.now) c.in_err-called.ensures.entered.0))

pub run_include-returns-in_err-called-clause-kept : goal.run_include-returns-in_err-called-clause-kept
run_include-returns-in_err-called-clause-kept g t c N names inside = kept_same N (layers_of c.args.state.now) (layers_of c.enter_include.new.state) c.in_err-called.ensures.entered.1

pub run_include-run_range-answer-requires : goal.run_include-run_range-answer-requires
run_include-run_range-answer-requires g t c κs within =
    let (small, deeper, ps, hs) = c.in_ok-called.ensures.within in
    let few : length c.nodes-nodes.result.now ≤ most_of c.args.context.now.partials.now = subst (λ n. n ≤ most_of c.args.context.now.partials.now) (sym (ap length c.nodes-nodes.ensures)) small in
    let step = reserve_left c.args.context.now.depth c.in_ok-called.inner.context.depth (length c.nodes-nodes.result.now) c.args.context.now.partials.now c.in_ok-called.inner.context.partials.now deeper ps few in
    (let lt : 4 * (length c.nodes-nodes.result.now - 0) + 1 + reserve c.in_ok-called.inner.context.depth c.in_ok-called.inner.context.partials.now < t = omega arith in lt, (within.0, (within.1, (forest_of c.in_ok-called.inner.partial.now, (stood_in c.in_ok-called.inner.partial.now c.nodes-nodes.result.now c.nodes-nodes.ensures)))))

pub run_include-returns-clause-performs : goal.run_include-returns-clause-performs
unfolding tree_of
run_include-returns-clause-performs g t c =
    let sink = sink_of g.W.CountedWrite.contents g.W.CountedWrite.failure_count in
    let place = configuration_of g.W.CountedWrite.contents g.W.CountedWrite.failure_count in
    let setting = setting_of g.H.NamedFilters.named c.args.context.now in
    let depth = c.args.context.now.depth in
    let bs = bindings_view c.args.bindings.now in
    let (small, deeper, ps, hs) = c.in_ok-called.ensures.within in
    let same = same_setting g.H.NamedFilters.named c.args.context.now c.in_ok-called.inner.context ps hs in
    let (scope, is, pushed) = c.in_ok-called.ensures.entered in
    let stood = stood_in c.in_ok-called.inner.partial.now c.nodes-nodes.result.now c.nodes-nodes.ensures in
    let kept = c.run_range-answer.ensures.kept (forest_of c.in_ok-called.inner.partial.now) stood (λ name. true) (within_all _) (within_all _) in
    let meant = nodes_meant (setting_of g.H.NamedFilters.named c.in_ok-called.inner.context) c.in_ok-called.inner.context.depth (tree_of c.in_ok-called.inner.partial.now) in
    met_again c.run_range-answer.result c.in_partial.result c.in_partial.ensures
    (include_runs setting depth (expression_view c.args.name.now) bs (setting_of g.H.NamedFilters.named c.in_ok-called.inner.context) c.run_range-answer.result scope (string_bytes c.in_ok-called.called) (tree_of c.in_ok-called.inner.partial.now) c.in_ok-called.inner.context.depth (place c.args.out.now c.args.state.now) (place c.run_range-answer.new.out c.pop_scope.new.self) same is
    (partial_met scope c.run_range-answer.result meant (sink c.args.out.now) (sink c.run_range-answer.new.out) (layers_of c.args.state.now) (layers_of c.enter_include.new.state) (layers_of c.run_range-answer.new.state) (layers_of c.pop_scope.new.self)
    pushed kept.scopes c.pop_scope.ensures.popped (c.run_range-answer.ensures.performs (forest_of c.in_ok-called.inner.partial.now) stood)))

pub run_include-returns-clause-kept : goal.run_include-returns-clause-kept
unfolding tree_of
run_include-returns-clause-kept g t c N names inside =
    let (small, deeper, ps, hs) = c.in_ok-called.ensures.within in
    let same = same_setting g.H.NamedFilters.named c.args.context.now c.in_ok-called.inner.context ps hs in
    let (scope, is, pushed) = c.in_ok-called.ensures.entered in
    let known = include_found (partials_of c.args.context.now.partials.now) c.args.context.now.depth (expression_view c.args.name.now) (bindings_view c.args.bindings.now) (environment_of c.args.state.now) scope (string_bytes c.in_ok-called.called) (tree_of c.in_ok-called.inner.partial.now) c.in_ok-called.inner.context.depth is in
    let within = within_found N (partials_of c.args.context.now.partials.now) (string_bytes c.in_ok-called.called) (tree_of c.in_ok-called.inner.partial.now) inside known in
    kept_around N scope (layers_of c.args.state.now) (layers_of c.enter_include.new.state) (layers_of c.run_range-answer.new.state) (layers_of c.pop_scope.new.self)
    pushed (c.run_range-answer.ensures.kept (forest_of c.in_ok-called.inner.partial.now) (stood_in c.in_ok-called.inner.partial.now c.nodes-nodes.result.now c.nodes-nodes.ensures) N within (subst (λ z. Within N (partials_names z.partials)) (sym same) inside)) c.pop_scope.ensures.popped

pub run_include-returns-clause-loops : goal.run_include-returns-clause-loops
run_include-returns-clause-loops g t c = c.pop_scope.ensures.loops ∙ ap without_innermost c.run_range-answer.ensures.loops ∙ c.in_ok-called.ensures.loops

pub run_jekyll_include-returns-in_err-inner-clause-performs : goal.run_jekyll_include-returns-in_err-inner-clause-performs
run_jekyll_include-returns-in_err-inner-clause-performs g t c =
    let sink = sink_of g.W.CountedWrite.contents g.W.CountedWrite.failure_count in
    let place = configuration_of g.W.CountedWrite.contents g.W.CountedWrite.failure_count in
    let setting = setting_of g.H.NamedFilters.named c.args.context.now in
    let depth = c.args.context.now.depth in
    let bs = bindings_view c.args.bindings.now in
    let p = err_from_is_err_and c.from_residual.result c.from_residual.ensures.1 in
    rw (p.1, p.2) (subst (λ l. Performs (Err c.in_err-inner.field-0.0) (node_meaning setting (deeper_meaning setting depth) (tree.jekyll_include c.args.name.now bs)) (place c.args.out.now c.args.state.now) (record { sink = sink c.args.out.now; environment = merged_layers l })) (sym c.in_err-inner.ensures.entered.1)
    (jekyll_refused setting depth c.args.name.now bs c.in_err-inner.field-0.0 (place c.args.out.now c.args.state.now) c.in_err-inner.ensures.entered.0))

pub run_jekyll_include-returns-in_err-inner-clause-kept : goal.run_jekyll_include-returns-in_err-inner-clause-kept
run_jekyll_include-returns-in_err-inner-clause-kept g t c N names inside = kept_same N (layers_of c.args.state.now) (layers_of c.enter_jekyll_include.new.state) c.in_err-inner.ensures.entered.1

pub run_jekyll_include-run_range-answer-requires : goal.run_jekyll_include-run_range-answer-requires
run_jekyll_include-run_range-answer-requires g t c κs within =
    let (small, deeper, ps, hs) = c.in_ok-inner.ensures.within in
    let few : length c.nodes-nodes.result.now ≤ most_of c.args.context.now.partials.now = subst (λ n. n ≤ most_of c.args.context.now.partials.now) (sym (ap length c.nodes-nodes.ensures)) small in
    let step = reserve_left c.args.context.now.depth c.in_ok-inner.inner.context.depth (length c.nodes-nodes.result.now) c.args.context.now.partials.now c.in_ok-inner.inner.context.partials.now deeper ps few in
    (let lt : 4 * (length c.nodes-nodes.result.now - 0) + 1 + reserve c.in_ok-inner.inner.context.depth c.in_ok-inner.inner.context.partials.now < t = omega arith in lt, (within.0, (within.1, (forest_of c.in_ok-inner.inner.partial.now, (stood_in c.in_ok-inner.inner.partial.now c.nodes-nodes.result.now c.nodes-nodes.ensures)))))

pub run_jekyll_include-returns-clause-performs : goal.run_jekyll_include-returns-clause-performs
unfolding tree_of
run_jekyll_include-returns-clause-performs g t c =
    let sink = sink_of g.W.CountedWrite.contents g.W.CountedWrite.failure_count in
    let place = configuration_of g.W.CountedWrite.contents g.W.CountedWrite.failure_count in
    let setting = setting_of g.H.NamedFilters.named c.args.context.now in
    let depth = c.args.context.now.depth in
    let bs = bindings_view c.args.bindings.now in
    let (small, deeper, ps, hs) = c.in_ok-inner.ensures.within in
    let same = same_setting g.H.NamedFilters.named c.args.context.now c.in_ok-inner.inner.context ps hs in
    let (scope, is, pushed) = c.in_ok-inner.ensures.entered in
    let stood = stood_in c.in_ok-inner.inner.partial.now c.nodes-nodes.result.now c.nodes-nodes.ensures in
    let kept = c.run_range-answer.ensures.kept (forest_of c.in_ok-inner.inner.partial.now) stood (λ name. true) (within_all _) (within_all _) in
    let meant = nodes_meant (setting_of g.H.NamedFilters.named c.in_ok-inner.inner.context) c.in_ok-inner.inner.context.depth (tree_of c.in_ok-inner.inner.partial.now) in
    met_again c.run_range-answer.result c.in_partial.result c.in_partial.ensures
    (jekyll_runs setting depth c.args.name.now bs (setting_of g.H.NamedFilters.named c.in_ok-inner.inner.context) c.run_range-answer.result scope (tree_of c.in_ok-inner.inner.partial.now) c.in_ok-inner.inner.context.depth (place c.args.out.now c.args.state.now) (place c.run_range-answer.new.out c.pop_scope.new.self) same is
    (partial_met scope c.run_range-answer.result meant (sink c.args.out.now) (sink c.run_range-answer.new.out) (layers_of c.args.state.now) (layers_of c.enter_jekyll_include.new.state) (layers_of c.run_range-answer.new.state) (layers_of c.pop_scope.new.self)
    pushed kept.scopes c.pop_scope.ensures.popped (c.run_range-answer.ensures.performs (forest_of c.in_ok-inner.inner.partial.now) stood)))

pub run_jekyll_include-returns-clause-kept : goal.run_jekyll_include-returns-clause-kept
unfolding tree_of
run_jekyll_include-returns-clause-kept g t c N names inside =
    let (small, deeper, ps, hs) = c.in_ok-inner.ensures.within in
    let same = same_setting g.H.NamedFilters.named c.args.context.now c.in_ok-inner.inner.context ps hs in
    let (scope, is, pushed) = c.in_ok-inner.ensures.entered in
    let known = jekyll_found (partials_of c.args.context.now.partials.now) c.args.context.now.depth c.args.name.now (bindings_view c.args.bindings.now) (environment_of c.args.state.now) scope (tree_of c.in_ok-inner.inner.partial.now) c.in_ok-inner.inner.context.depth is in
    let within = within_found N (partials_of c.args.context.now.partials.now) c.args.name.now (tree_of c.in_ok-inner.inner.partial.now) inside known in
    kept_around N scope (layers_of c.args.state.now) (layers_of c.enter_jekyll_include.new.state) (layers_of c.run_range-answer.new.state) (layers_of c.pop_scope.new.self)
    pushed (c.run_range-answer.ensures.kept (forest_of c.in_ok-inner.inner.partial.now) (stood_in c.in_ok-inner.inner.partial.now c.nodes-nodes.result.now c.nodes-nodes.ensures) N within (subst (λ z. Within N (partials_names z.partials)) (sym same) inside)) c.pop_scope.ensures.popped

pub run_jekyll_include-returns-clause-loops : goal.run_jekyll_include-returns-clause-loops
run_jekyll_include-returns-clause-loops g t c = c.pop_scope.ensures.loops ∙ ap without_innermost c.run_range-answer.ensures.loops ∙ c.in_ok-inner.ensures.loops

pub renders::run_render-returns-in_err-called-clause-performs : goal.renders::run_render-returns-in_err-called-clause-performs
renders::run_render-returns-in_err-called-clause-performs g t c =
    let sink = sink_of g.W.CountedWrite.contents g.W.CountedWrite.failure_count in
    let place = configuration_of g.W.CountedWrite.contents g.W.CountedWrite.failure_count in
    let setting = setting_of g.H.NamedFilters.named c.args.context.now in
    let depth = c.args.context.now.depth in
    let bs = bindings_view c.args.bindings.now in
    let p = err_from_is_err_and c.from_residual.result c.from_residual.ensures.1 in
    rw (p.1, p.2) (render_refused setting depth (expression_view c.args.name.now) bs c.in_err-called.field-0.0 (place c.args.out.now c.args.state.now) c.in_err-called.ensures.apart)

pub renders::run_render-run_range-answer-requires : goal.renders::run_render-run_range-answer-requires
renders::run_render-run_range-answer-requires g t c κs within =
    let (small, deeper, ps, hs) = c.in_ok-called.ensures.within in
    let few : length c.nodes-nodes.result.now ≤ most_of c.args.context.now.partials.now = subst (λ n. n ≤ most_of c.args.context.now.partials.now) (sym (ap length c.nodes-nodes.ensures)) small in
    let step = reserve_left c.args.context.now.depth c.in_ok-called.apart.inner.context.depth (length c.nodes-nodes.result.now) c.args.context.now.partials.now c.in_ok-called.apart.inner.context.partials.now deeper ps few in
    (let lt : 4 * (length c.nodes-nodes.result.now - 0) + 1 + reserve c.in_ok-called.apart.inner.context.depth c.in_ok-called.apart.inner.context.partials.now < t = omega arith in lt, (within.0, (within.1, (forest_of c.in_ok-called.apart.inner.partial.now, (stood_in c.in_ok-called.apart.inner.partial.now c.nodes-nodes.result.now c.nodes-nodes.ensures)))))

pub renders::run_render-returns-clause-performs : goal.renders::run_render-returns-clause-performs
unfolding tree_of
renders::run_render-returns-clause-performs g t c =
    let sink = sink_of g.W.CountedWrite.contents g.W.CountedWrite.failure_count in
    let place = configuration_of g.W.CountedWrite.contents g.W.CountedWrite.failure_count in
    let setting = setting_of g.H.NamedFilters.named c.args.context.now in
    let depth = c.args.context.now.depth in
    let bs = bindings_view c.args.bindings.now in
    let (small, deeper, ps, hs) = c.in_ok-called.ensures.within in
    let same = same_setting g.H.NamedFilters.named c.args.context.now c.in_ok-called.apart.inner.context ps hs in
    let ran = c.run_range-answer.ensures.performs (forest_of c.in_ok-called.apart.inner.partial.now) (stood_in c.in_ok-called.apart.inner.partial.now c.nodes-nodes.result.now c.nodes-nodes.ensures) in
    render_runs setting depth (expression_view c.args.name.now) bs (setting_of g.H.NamedFilters.named c.in_ok-called.apart.inner.context) c.in_partial.result (environment_of c.in_ok-called.apart.own) (string_bytes c.in_ok-called.called) (tree_of c.in_ok-called.apart.inner.partial.now) c.in_ok-called.apart.inner.context.depth
    (sink c.args.out.now) (sink c.run_range-answer.new.out) (environment_of c.args.state.now) (environment_of c.run_range-answer.new.state) same c.in_ok-called.ensures.apart (met_again c.run_range-answer.result c.in_partial.result c.in_partial.ensures ran)

pub renders::run_item-returns-in_err-turns-clause-performs : goal.renders::run_item-returns-in_err-turns-clause-performs
renders::run_item-returns-in_err-turns-clause-performs g t c =
    let place = configuration_of g.W.CountedWrite.contents g.W.CountedWrite.failure_count in
    let setting = setting_of g.H.NamedFilters.named c.args.context.now in
    let p = err_from_is_err_and c.from_residual.result c.from_residual.ensures.1 in
    rw (p.1, p.2) (may_not_meet (λ (i : Option Interrupt). i) c.in_err-turns.field-0.0 (render_apart setting (deeper_meaning setting c.args.context.now.depth) c.args.name.now (bindings_view c.args.bindings.now) (item_scope c.args.item.now)) (place c.args.out.now c.args.state.now) (place c.turns.new.self c.args.state.now) c.in_err-turns.ensures.refused)

pub renders::run_item-returns-in_err-apart-clause-performs : goal.renders::run_item-returns-in_err-apart-clause-performs
renders::run_item-returns-in_err-apart-clause-performs g t c =
    let sink = sink_of g.W.CountedWrite.contents g.W.CountedWrite.failure_count in
    let place = configuration_of g.W.CountedWrite.contents g.W.CountedWrite.failure_count in
    let setting = setting_of g.H.NamedFilters.named c.args.context.now in
    let depth = c.args.context.now.depth in
    let bs = bindings_view c.args.bindings.now in
    let p = err_from_is_err_and c.from_residual-in_err-apart.result c.from_residual-in_err-apart.ensures.1 in
    rw (p.1, p.2) (meets_from (λ (i : Option Interrupt). i) (Err c.in_err-apart.field-0.0) (render_apart setting (deeper_meaning setting depth) c.args.name.now bs (item_scope c.args.item.now)) _ _ (environment_of c.args.state.now) (place c.turns.new.self c.args.state.now) c.in_ok-turns.ensures.goes_on (item_refused setting depth c.args.name.now bs (item_scope c.args.item.now) c.in_err-apart.field-0.0 (place c.turns.new.self c.args.state.now) c.in_err-apart.ensures.apart))

pub renders::run_item-run_range-answer-requires : goal.renders::run_item-run_range-answer-requires
renders::run_item-run_range-answer-requires g t c κs within =
    let (small, deeper, ps, hs) = c.in_ok-apart.ensures.within in
    let few : length c.nodes-nodes.result.now ≤ most_of c.args.context.now.partials.now = subst (λ n. n ≤ most_of c.args.context.now.partials.now) (sym (ap length c.nodes-nodes.ensures)) small in
    let step = reserve_left c.args.context.now.depth c.in_ok-apart.apart.inner.context.depth (length c.nodes-nodes.result.now) c.args.context.now.partials.now c.in_ok-apart.apart.inner.context.partials.now deeper ps few in
    (let lt : 4 * (length c.nodes-nodes.result.now - 0) + 1 + reserve c.in_ok-apart.apart.inner.context.depth c.in_ok-apart.apart.inner.context.partials.now < t = omega arith in lt, (within.0, (within.1, (forest_of c.in_ok-apart.apart.inner.partial.now, (stood_in c.in_ok-apart.apart.inner.partial.now c.nodes-nodes.result.now c.nodes-nodes.ensures)))))

pub renders::run_item-returns-clause-performs : goal.renders::run_item-returns-clause-performs
unfolding tree_of
renders::run_item-returns-clause-performs g t c =
    let sink = sink_of g.W.CountedWrite.contents g.W.CountedWrite.failure_count in
    let place = configuration_of g.W.CountedWrite.contents g.W.CountedWrite.failure_count in
    let setting = setting_of g.H.NamedFilters.named c.args.context.now in
    let depth = c.args.context.now.depth in
    let bs = bindings_view c.args.bindings.now in
    let (small, deeper, ps, hs) = c.in_ok-apart.ensures.within in
    let same = same_setting g.H.NamedFilters.named c.args.context.now c.in_ok-apart.apart.inner.context ps hs in
    let ran = c.run_range-answer.ensures.performs (forest_of c.in_ok-apart.apart.inner.partial.now) (stood_in c.in_ok-apart.apart.inner.partial.now c.nodes-nodes.result.now c.nodes-nodes.ensures) in
    subst (λ (r : Result (Option Interrupt) Error). Meets (λ (i : Option Interrupt). i) r (render_apart setting (deeper_meaning setting depth) c.args.name.now bs (item_scope c.args.item.now)) (place c.args.out.now c.args.state.now) (place c.run_range-answer.new.out c.args.state.now)) (sym c.left_by-left.ensures)
    (meets_from (λ (i : Option Interrupt). i) _ (render_apart setting (deeper_meaning setting depth) c.args.name.now bs (item_scope c.args.item.now)) _ _ (environment_of c.args.state.now) (place c.run_range-answer.new.out c.args.state.now) c.in_ok-turns.ensures.goes_on
    (item_runs setting depth c.args.name.now bs (item_scope c.args.item.now) (setting_of g.H.NamedFilters.named c.in_ok-apart.apart.inner.context) c.in_partial.result (environment_of c.in_ok-apart.apart.own) (tree_of c.in_ok-apart.apart.inner.partial.now) c.in_ok-apart.apart.inner.context.depth
    (sink c.turns.new.self) (sink c.run_range-answer.new.out) (environment_of c.args.state.now) (environment_of c.run_range-answer.new.state) same c.in_ok-apart.ensures.apart (met_again c.run_range-answer.result c.in_partial.result c.in_partial.ensures ran)))

pub renders::run_render_each-returns-in_err-called-clause-performs : goal.renders::run_render_each-returns-in_err-called-clause-performs
renders::run_render_each-returns-in_err-called-clause-performs g t c =
    let place = configuration_of g.W.CountedWrite.contents g.W.CountedWrite.failure_count in
    let p = err_from_is_err_and c.from_residual.result c.from_residual.ensures.1 in
    rw (p.1, p.2) (name_refused (setting_of g.H.NamedFilters.named c.args.context.now) (deeper_meaning (setting_of g.H.NamedFilters.named c.args.context.now) c.args.context.now.depth) (expression_view c.args.name.now) (each_view c.args.each.now) (bindings_view c.args.bindings.now) c.in_err-called.field-0.0 (place c.args.out.now c.args.state.now) c.in_err-called.ensures)

pub renders::run_render_each-returns-in_err-source-clause-performs : goal.renders::run_render_each-returns-in_err-source-clause-performs
renders::run_render_each-returns-in_err-source-clause-performs g t c =
    let place = configuration_of g.W.CountedWrite.contents g.W.CountedWrite.failure_count in
    let p = err_from_is_err_and c.from_residual-in_err-source.result c.from_residual-in_err-source.ensures.1 in
    rw (p.1, p.2) (items_refused (setting_of g.H.NamedFilters.named c.args.context.now) (deeper_meaning (setting_of g.H.NamedFilters.named c.args.context.now) c.args.context.now.depth) (expression_view c.args.name.now) (each_view c.args.each.now) (bindings_view c.args.bindings.now) c.in_err-source.field-0.0 (string_bytes c.in_ok-called.called) (place c.args.out.now c.args.state.now) c.in_ok-called.ensures c.in_err-source.ensures.items)

pub renders::run_render_each-returns-in_err-left-clause-performs : goal.renders::run_render_each-returns-in_err-left-clause-performs
renders::run_render_each-returns-in_err-left-clause-performs g t c =
    let place = configuration_of g.W.CountedWrite.contents g.W.CountedWrite.failure_count in
    let name = string_bytes c.in_ok-called.called in
    let source = c.in_ok-source.source in
    let ds = all_items source.items in
    let run = item_run (setting_of g.H.NamedFilters.named c.args.context.now) (deeper_meaning (setting_of g.H.NamedFilters.named c.args.context.now) c.args.context.now.depth) (expression_view c.args.name.now) (each_view c.args.each.now) (bindings_view c.args.bindings.now) name in
    let count : source.count ≡ length ds = c.in_ok-source.ensures.count in
    let lt : c.loop-at.at < length ds = subst (λ m. c.loop-at.at < m) count c.loop-at-test.true in
    let over : Datum → Map Datum = λ d. loop_scope (codes "forloop") (forloop_object c.loop-at.at source.count nil) (string_bytes c.args.each.now.variable) d in
    let is = item_by_place source.items c.loop-at.at in
    let start = place c.args.out.now c.args.state.now in
    let here = place c.loop-at.out c.args.state.now in
    let there = place c.run_item.new.out c.args.state.now in
    let p = err_from_is_err_and c.from_residual-in_err-left.result c.from_residual-in_err-left.ensures.1 in
    rw (p.1, p.2) (items_met (setting_of g.H.NamedFilters.named c.args.context.now) (deeper_meaning (setting_of g.H.NamedFilters.named c.args.context.now) c.args.context.now.depth) (expression_view c.args.name.now) (each_view c.args.each.now) (bindings_view c.args.bindings.now) (Err c.in_err-left.field-0.0) name ds start there c.in_ok-called.ensures c.in_ok-source.ensures.items
    (subst (λ m. Performs (Err c.in_err-left.field-0.0) (items_left (run m) ds 0) start there) count
    (item_faulted (run source.count) ds c.loop-at.at c.in_err-left.field-0.0 start here there lt
    (subst (λ x. Meets (λ (i : Option Interrupt). i) (Err c.in_err-left.field-0.0) (render_apart (setting_of g.H.NamedFilters.named c.args.context.now) (deeper_meaning (setting_of g.H.NamedFilters.named c.args.context.now) c.args.context.now.depth) x (bindings_view c.args.bindings.now) (over (get_or ds c.loop-at.at nil))) here there) c.as_str.ensures.value ((subst (λ d. Meets (λ (i : Option Interrupt). i) (Err c.in_err-left.field-0.0) (render_apart (setting_of g.H.NamedFilters.named c.args.context.now) (deeper_meaning (setting_of g.H.NamedFilters.named c.args.context.now) c.args.context.now.depth) c.as_str.result.now (bindings_view c.args.bindings.now) (over d)) here there) is c.in_err-left.ensures.performs))) c.loop-at.invariant.leads)))

pub renders::run_render_each-returns-then-ends_items-clause-performs : goal.renders::run_render_each-returns-then-ends_items-clause-performs
renders::run_render_each-returns-then-ends_items-clause-performs g t c =
    let place = configuration_of g.W.CountedWrite.contents g.W.CountedWrite.failure_count in
    let name = string_bytes c.in_ok-called.called in
    let source = c.in_ok-source.source in
    let ds = all_items source.items in
    let run = item_run (setting_of g.H.NamedFilters.named c.args.context.now) (deeper_meaning (setting_of g.H.NamedFilters.named c.args.context.now) c.args.context.now.depth) (expression_view c.args.name.now) (each_view c.args.each.now) (bindings_view c.args.bindings.now) name in
    let count : source.count ≡ length ds = c.in_ok-source.ensures.count in
    let lt : c.loop-at.at < length ds = subst (λ m. c.loop-at.at < m) count c.loop-at-test.true in
    let over : Datum → Map Datum = λ d. loop_scope (codes "forloop") (forloop_object c.loop-at.at source.count nil) (string_bytes c.args.each.now.variable) d in
    let is = item_by_place source.items c.loop-at.at in
    let start = place c.args.out.now c.args.state.now in
    let here = place c.loop-at.out c.args.state.now in
    let there = place c.run_item.new.out c.args.state.now in
    items_met (setting_of g.H.NamedFilters.named c.args.context.now) (deeper_meaning (setting_of g.H.NamedFilters.named c.args.context.now) c.args.context.now.depth) (expression_view c.args.name.now) (each_view c.args.each.now) (bindings_view c.args.bindings.now) (Ok tt) name ds start there c.in_ok-called.ensures c.in_ok-source.ensures.items
    (subst (λ m. Performs (Ok tt) (items_left (run m) ds 0) start there) count
    (item_breaks (run source.count) ds c.loop-at.at c.in_ok-left.left tt start here there lt (sym c.ends_items.ensures ∙ c.if-ends_items.true)
    (subst (λ x. Meets (λ (i : Option Interrupt). i) (Ok c.in_ok-left.left) (render_apart (setting_of g.H.NamedFilters.named c.args.context.now) (deeper_meaning (setting_of g.H.NamedFilters.named c.args.context.now) c.args.context.now.depth) x (bindings_view c.args.bindings.now) (over (get_or ds c.loop-at.at nil))) here there) c.as_str.ensures.value ((subst (λ d. Meets (λ (i : Option Interrupt). i) (Ok c.in_ok-left.left) (render_apart (setting_of g.H.NamedFilters.named c.args.context.now) (deeper_meaning (setting_of g.H.NamedFilters.named c.args.context.now) c.args.context.now.depth) c.as_str.result.now (bindings_view c.args.bindings.now) (over d)) here there) is c.in_ok-left.ensures.performs))) c.loop-at.invariant.leads))

pub renders::run_render_each-loop-at-preserved : goal.renders::run_render_each-loop-at-preserved
renders::run_render_each-loop-at-preserved g t c =
    let place = configuration_of g.W.CountedWrite.contents g.W.CountedWrite.failure_count in
    let name = string_bytes c.in_ok-called.called in
    let source = c.in_ok-source.source in
    let ds = all_items source.items in
    let run = item_run (setting_of g.H.NamedFilters.named c.args.context.now) (deeper_meaning (setting_of g.H.NamedFilters.named c.args.context.now) c.args.context.now.depth) (expression_view c.args.name.now) (each_view c.args.each.now) (bindings_view c.args.bindings.now) name in
    let count : source.count ≡ length ds = c.in_ok-source.ensures.count in
    let lt : c.loop-at.at < length ds = subst (λ m. c.loop-at.at < m) count c.loop-at-test.true in
    let over : Datum → Map Datum = λ d. loop_scope (codes "forloop") (forloop_object c.loop-at.at source.count nil) (string_bytes c.args.each.now.variable) d in
    let is = item_by_place source.items c.loop-at.at in
    let start = place c.args.out.now c.args.state.now in
    let here = place c.loop-at.out c.args.state.now in
    let there = place c.run_item.new.out c.args.state.now in
    record {
      ordered = (let le : c.loop-at.at + 1 ≤ source.count = omega (arith, c.loop-at-test.true) in le);
      leads = item_on (run source.count) ds c.loop-at.at c.in_ok-left.left start here there lt (sym c.ends_items.ensures ∙ c.if-ends_items.false)
          (subst (λ x. Meets (λ (i : Option Interrupt). i) (Ok c.in_ok-left.left) (render_apart (setting_of g.H.NamedFilters.named c.args.context.now) (deeper_meaning (setting_of g.H.NamedFilters.named c.args.context.now) c.args.context.now.depth) x (bindings_view c.args.bindings.now) (over (get_or ds c.loop-at.at nil))) here there) c.as_str.ensures.value ((subst (λ d. Meets (λ (i : Option Interrupt). i) (Ok c.in_ok-left.left) (render_apart (setting_of g.H.NamedFilters.named c.args.context.now) (deeper_meaning (setting_of g.H.NamedFilters.named c.args.context.now) c.args.context.now.depth) c.as_str.result.now (bindings_view c.args.bindings.now) (over d)) here there) is c.in_ok-left.ensures.performs))) c.loop-at.invariant.leads;
      same_writer = c.run_item.ensures.same_writer ∙ c.loop-at.invariant.same_writer;
      bounded = less_then c.run_item.ensures.bounded c.loop-at.invariant.bounded;
      limited = c.run_item.ensures.limited ∙ c.loop-at.invariant.limited;
    }

pub renders::run_render_each-returns-clause-performs : goal.renders::run_render_each-returns-clause-performs
renders::run_render_each-returns-clause-performs g t c =
    let place = configuration_of g.W.CountedWrite.contents g.W.CountedWrite.failure_count in
    let name = string_bytes c.in_ok-called.called in
    let source = c.in_ok-source.source in
    let ds = all_items source.items in
    let run = item_run (setting_of g.H.NamedFilters.named c.args.context.now) (deeper_meaning (setting_of g.H.NamedFilters.named c.args.context.now) c.args.context.now.depth) (expression_view c.args.name.now) (each_view c.args.each.now) (bindings_view c.args.bindings.now) name in
    let count : source.count ≡ length ds = c.in_ok-source.ensures.count in
    let start = place c.args.out.now c.args.state.now in
    let here = place c.loop-at.out c.args.state.now in
    let le : length ds ≤ c.loop-at.at = subst (λ m. m ≤ c.loop-at.at) count c.loop-at-test.false in
    items_met (setting_of g.H.NamedFilters.named c.args.context.now) (deeper_meaning (setting_of g.H.NamedFilters.named c.args.context.now) c.args.context.now.depth) (expression_view c.args.name.now) (each_view c.args.each.now) (bindings_view c.args.bindings.now) (Ok tt) name ds start here c.in_ok-called.ensures c.in_ok-source.ensures.items
    (subst (λ m. Performs (Ok tt) (items_left (run m) ds 0) start here) count (items_end (run source.count) ds c.loop-at.at tt start here le c.loop-at.invariant.leads))

pub run_node-returns-in-Increment-clause-performs : goal.run_node-returns-in-Increment-clause-performs
run_node-returns-in-Increment-clause-performs g t c =
    let place = configuration_of g.W.CountedWrite.contents g.W.CountedWrite.failure_count in
    leaf_performs (setting_of g.H.NamedFilters.named c.args.context.now) c.args.context.now.depth c.args.nodes.now c.args.at c.args.to c.index-nodes-at.result _ (tree.increment (string_bytes c.in-Increment.name)) c.run_increment.result (place c.args.out.now c.args.state.now) (place c.run_increment.new.out c.run_increment.new.state) c.requires c.index-nodes-at.is c.in-Increment.is refl
    (subst (λ x. Performs c.run_increment.result (node_meant (setting_of g.H.NamedFilters.named c.args.context.now) c.args.context.now.depth (tree.increment x)) (place c.args.out.now c.args.state.now) (place c.run_increment.new.out c.run_increment.new.state)) c.as_str-in-Increment.ensures.value c.run_increment.ensures.performs)

pub run_node-returns-in-Increment-clause-kept : goal.run_node-returns-in-Increment-clause-kept
run_node-returns-in-Increment-clause-kept g t c =
    leaf_keeps (setting_of g.H.NamedFilters.named c.args.context.now) c.args.nodes.now c.args.at c.args.to c.index-nodes-at.result _ (tree.increment (string_bytes c.in-Increment.name)) c.args.state.now c.run_increment.new.state c.requires c.index-nodes-at.is c.in-Increment.is refl
    (subst (λ x. Keeps (node_names (tree.increment x)) (setting_of g.H.NamedFilters.named c.args.context.now) c.args.state.now c.run_increment.new.state) c.as_str-in-Increment.ensures.value c.run_increment.ensures.kept)

pub run_node-returns-in-Increment-clause-alone : goal.run_node-returns-in-Increment-clause-alone
run_node-returns-in-Increment-clause-alone g t c = leaf_other c.args.nodes.now c.args.at c.args.to c.index-nodes-at.result _ (tree.increment (string_bytes c.in-Increment.name)) c.args.state.now c.run_increment.new.state c.requires c.index-nodes-at.is c.in-Increment.is refl (λ no. absurd no)

pub run_node-returns-in-Decrement-clause-performs : goal.run_node-returns-in-Decrement-clause-performs
run_node-returns-in-Decrement-clause-performs g t c =
    let place = configuration_of g.W.CountedWrite.contents g.W.CountedWrite.failure_count in
    leaf_performs (setting_of g.H.NamedFilters.named c.args.context.now) c.args.context.now.depth c.args.nodes.now c.args.at c.args.to c.index-nodes-at.result _ (tree.decrement (string_bytes c.in-Decrement.name)) c.run_decrement.result (place c.args.out.now c.args.state.now) (place c.run_decrement.new.out c.run_decrement.new.state) c.requires c.index-nodes-at.is c.in-Decrement.is refl
    (subst (λ x. Performs c.run_decrement.result (node_meant (setting_of g.H.NamedFilters.named c.args.context.now) c.args.context.now.depth (tree.decrement x)) (place c.args.out.now c.args.state.now) (place c.run_decrement.new.out c.run_decrement.new.state)) c.as_str-in-Decrement.ensures.value c.run_decrement.ensures.performs)

pub run_node-returns-in-Decrement-clause-kept : goal.run_node-returns-in-Decrement-clause-kept
run_node-returns-in-Decrement-clause-kept g t c =
    leaf_keeps (setting_of g.H.NamedFilters.named c.args.context.now) c.args.nodes.now c.args.at c.args.to c.index-nodes-at.result _ (tree.decrement (string_bytes c.in-Decrement.name)) c.args.state.now c.run_decrement.new.state c.requires c.index-nodes-at.is c.in-Decrement.is refl
    (subst (λ x. Keeps (node_names (tree.decrement x)) (setting_of g.H.NamedFilters.named c.args.context.now) c.args.state.now c.run_decrement.new.state) c.as_str-in-Decrement.ensures.value c.run_decrement.ensures.kept)

pub run_node-returns-in-Decrement-clause-alone : goal.run_node-returns-in-Decrement-clause-alone
run_node-returns-in-Decrement-clause-alone g t c = leaf_other c.args.nodes.now c.args.at c.args.to c.index-nodes-at.result _ (tree.decrement (string_bytes c.in-Decrement.name)) c.args.state.now c.run_decrement.new.state c.requires c.index-nodes-at.is c.in-Decrement.is refl (λ no. absurd no)

pub run_node-returns-in-Cycle-clause-performs : goal.run_node-returns-in-Cycle-clause-performs
run_node-returns-in-Cycle-clause-performs g t c =
    let place = configuration_of g.W.CountedWrite.contents g.W.CountedWrite.failure_count in
    leaf_performs (setting_of g.H.NamedFilters.named c.args.context.now) c.args.context.now.depth c.args.nodes.now c.args.at c.args.to c.index-nodes-at.result _ (tree.cycle (string_bytes c.in-Cycle.group) (map expression_view c.in-Cycle.values.items)) c.run_cycle.result (place c.args.out.now c.args.state.now) (place c.run_cycle.new.out c.run_cycle.new.state) c.requires c.index-nodes-at.is c.in-Cycle.is refl
    (subst (λ ys. Performs c.run_cycle.result (node_meant (setting_of g.H.NamedFilters.named c.args.context.now) c.args.context.now.depth (tree.cycle (string_bytes c.in-Cycle.group) (map expression_view ys))) (place c.args.out.now c.args.state.now) (place c.run_cycle.new.out c.run_cycle.new.state)) c.deref-in-Cycle.ensures.value (subst (λ x. Performs c.run_cycle.result (node_meant (setting_of g.H.NamedFilters.named c.args.context.now) c.args.context.now.depth (tree.cycle x (map expression_view c.deref-in-Cycle.result.now))) (place c.args.out.now c.args.state.now) (place c.run_cycle.new.out c.run_cycle.new.state)) c.as_str-in-Cycle.ensures.value c.run_cycle.ensures.performs))

pub run_node-returns-in-Cycle-clause-kept : goal.run_node-returns-in-Cycle-clause-kept
run_node-returns-in-Cycle-clause-kept g t c =
    leaf_keeps (setting_of g.H.NamedFilters.named c.args.context.now) c.args.nodes.now c.args.at c.args.to c.index-nodes-at.result _ (tree.cycle (string_bytes c.in-Cycle.group) (map expression_view c.in-Cycle.values.items)) c.args.state.now c.run_cycle.new.state c.requires c.index-nodes-at.is c.in-Cycle.is refl
    (subst (λ ys. Keeps (node_names (tree.cycle (string_bytes c.in-Cycle.group) (map expression_view ys))) (setting_of g.H.NamedFilters.named c.args.context.now) c.args.state.now c.run_cycle.new.state) c.deref-in-Cycle.ensures.value (subst (λ x. Keeps (node_names (tree.cycle x (map expression_view c.deref-in-Cycle.result.now))) (setting_of g.H.NamedFilters.named c.args.context.now) c.args.state.now c.run_cycle.new.state) c.as_str-in-Cycle.ensures.value c.run_cycle.ensures.kept))

pub run_node-returns-in-Cycle-clause-alone : goal.run_node-returns-in-Cycle-clause-alone
run_node-returns-in-Cycle-clause-alone g t c = leaf_other c.args.nodes.now c.args.at c.args.to c.index-nodes-at.result _ (tree.cycle (string_bytes c.in-Cycle.group) (map expression_view c.in-Cycle.values.items)) c.args.state.now c.run_cycle.new.state c.requires c.index-nodes-at.is c.in-Cycle.is refl (λ no. absurd no)

pub run_node-run_ifchanged-requires : goal.run_node-run_ifchanged-requires
run_node-run_ifchanged-requires g t c κs within =
    let (body, past, inside) = one c.args.nodes.now c.args.at c.in-IfChanged.end c.args.to c.index-nodes-at.result _ tree.ifchanged c.requires c.index-nodes-at.is c.in-IfChanged.is refl in
    (let lt : 4 * (c.in-IfChanged.end - c.args.at) - 1 + reserve c.args.context.now.depth c.args.context.now.partials.now < t = omega arith in lt, (within.0, (within.1, body)))

pub run_node-returns-in-IfChanged-clause-performs : goal.run_node-returns-in-IfChanged-clause-performs
run_node-returns-in-IfChanged-clause-performs g t c =
    let place = configuration_of g.W.CountedWrite.contents g.W.CountedWrite.failure_count in
    one_performs (setting_of g.H.NamedFilters.named c.args.context.now) c.args.context.now.depth c.args.nodes.now c.args.at c.in-IfChanged.end c.args.to c.index-nodes-at.result _ tree.ifchanged c.run_ifchanged.result (place c.args.out.now c.args.state.now) (place c.run_ifchanged.new.out c.run_ifchanged.new.state) c.requires c.index-nodes-at.is c.in-IfChanged.is refl
    c.run_ifchanged.ensures.performs

pub run_node-returns-in-IfChanged-clause-kept : goal.run_node-returns-in-IfChanged-clause-kept
run_node-returns-in-IfChanged-clause-kept g t c =
    one_keeps (setting_of g.H.NamedFilters.named c.args.context.now) c.args.nodes.now c.args.at c.in-IfChanged.end c.args.to c.index-nodes-at.result _ tree.ifchanged c.args.state.now c.run_ifchanged.new.state c.requires c.index-nodes-at.is c.in-IfChanged.is refl
    c.run_ifchanged.ensures.kept

pub run_node-returns-in-IfChanged-clause-alone : goal.run_node-returns-in-IfChanged-clause-alone
run_node-returns-in-IfChanged-clause-alone g t c = one_other c.args.nodes.now c.args.at c.in-IfChanged.end c.args.to c.index-nodes-at.result _ tree.ifchanged c.args.state.now c.run_ifchanged.new.state c.requires c.index-nodes-at.is c.in-IfChanged.is refl (λ b no. absurd no)

pub buffers::run_ifchanged-overflow_add-at : goal.buffers::run_ifchanged-overflow_add-at
buffers::run_ifchanged-overflow_add-at g t c =
    let body : IsNodeRange c.args.nodes.now (c.args.at + 1) c.args.end = c.requires in
    let (b, here) = body in
    let le : c.args.at + 1 ≤ c.args.end = Stands-le (flats c.args.nodes.now) (c.args.at + 1) b c.args.end here in
    search rules

pub buffers::run_ifchanged-run_range-ended-requires : goal.buffers::run_ifchanged-run_range-ended-requires
buffers::run_ifchanged-run_range-ended-requires g t c κs within =
    let body : IsNodeRange c.args.nodes.now (c.args.at + 1) c.args.end = c.requires in
    let (b, here) = body in
    let le : c.args.at + 1 ≤ c.args.end = Stands-le (flats c.args.nodes.now) (c.args.at + 1) b c.args.end here in
    (let lt : 4 * (c.args.end - (c.args.at + 1)) + 1 + reserve c.args.context.now.depth c.args.context.now.partials.now < t = omega arith in lt, (within.0, (within.1, body)))

pub buffers::run_ifchanged-returns-in_err-ended-clause-performs : goal.buffers::run_ifchanged-returns-in_err-ended-clause-performs
buffers::run_ifchanged-returns-in_err-ended-clause-performs g t c b here =
    let sink = sink_of g.W.CountedWrite.contents g.W.CountedWrite.failure_count in
    let around = around_buffer g.W.CountedWrite.contents g.W.CountedWrite.failure_count c.args.out.now c.open-outer.new.self c.run_range-ended.new.out c.close-text.new.self c.open-outer.result c.close-text.result
    c.open-outer.ensures.outer c.open-outer.ensures.empty c.open-outer.ensures.writer c.close-text.ensures.text c.close-text.ensures.outer c.close-text.ensures.writer in
    let m = nodes_meant (setting_of g.H.NamedFilters.named c.args.context.now) c.args.context.now.depth (nodes_of b) in
    let e = environment_of c.args.state.now in
    let mid = environment_of c.run_range-ended.new.state in
    let p = err_from_is_err_and c.from_residual.result c.from_residual.ensures.1 in
    rw (p.1, p.2) (by_rule (ifchanged_rule (setting_of g.H.NamedFilters.named c.args.context.now) (deeper_meaning (setting_of g.H.NamedFilters.named c.args.context.now) c.args.context.now.depth) (nodes_of b)) (bind_faulted (λ x. x) unit _ (buffered m) shown_if_changed _ _ (buffered_faulted unit (λ x. x) _ m (sink c.args.out.now) (sink c.open-outer.new.self) (sink c.run_range-ended.new.out) (sink c.close-text.new.self) (string_bytes c.close-text.result) e mid around (c.in_err-ended.ensures.performs b here))))

pub buffers::run_ifchanged-returns-clause-performs : goal.buffers::run_ifchanged-returns-clause-performs
buffers::run_ifchanged-returns-clause-performs g t c b here =
    let sink = sink_of g.W.CountedWrite.contents g.W.CountedWrite.failure_count in
    let around = around_buffer g.W.CountedWrite.contents g.W.CountedWrite.failure_count c.args.out.now c.open-outer.new.self c.run_range-ended.new.out c.close-text.new.self c.open-outer.result c.close-text.result
    c.open-outer.ensures.outer c.open-outer.ensures.empty c.open-outer.ensures.writer c.close-text.ensures.text c.close-text.ensures.outer c.close-text.ensures.writer in
    let m = nodes_meant (setting_of g.H.NamedFilters.named c.args.context.now) c.args.context.now.depth (nodes_of b) in
    let e = environment_of c.args.state.now in
    let mid = environment_of c.run_range-ended.new.state in
    by_rule (ifchanged_rule (setting_of g.H.NamedFilters.named c.args.context.now) (deeper_meaning (setting_of g.H.NamedFilters.named c.args.context.now) c.args.context.now.depth) (nodes_of b)) (bind_met (λ x. x) unit (string_bytes c.close-text.result) c.show_if_changed.result (buffered m) shown_if_changed _ (record { sink = sink c.close-text.new.self; environment = mid }) _
    (buffered_met unit _ m (sink c.args.out.now) (sink c.open-outer.new.self) (sink c.run_range-ended.new.out) (sink c.close-text.new.self) (string_bytes c.close-text.result) e mid around (c.in_ok-ended.ensures.performs b here))
    c.show_if_changed.ensures.performs)

pub buffers::run_ifchanged-returns-clause-kept : goal.buffers::run_ifchanged-returns-clause-kept
unfolding node_names
buffers::run_ifchanged-returns-clause-kept g t c b here N names inside =
    kept_after N _ _ _ (c.run_range-ended.ensures.kept b here N names inside) (c.show_if_changed.ensures.kept N)

pub buffers::run_ifchanged-returns-in_err-ended-clause-kept : goal.buffers::run_ifchanged-returns-in_err-ended-clause-kept
unfolding node_names
buffers::run_ifchanged-returns-in_err-ended-clause-kept g t c b here N names inside =
    c.run_range-ended.ensures.kept b here N names inside

pub run_node-run_filtered-requires : goal.run_node-run_filtered-requires
run_node-run_filtered-requires g t c κs within =
    let (body, past, inside) = one c.args.nodes.now c.args.at c.in-Filtered.end c.args.to c.index-nodes-at.result _ (tree.filtered (map chain_filter_view c.in-Filtered.filters.items)) c.requires c.index-nodes-at.is c.in-Filtered.is refl in
    (let lt : 4 * (c.in-Filtered.end - c.args.at) - 1 + reserve c.args.context.now.depth c.args.context.now.partials.now < t = omega arith in lt, (within.0, (within.1, body)))

pub run_node-returns-in-Filtered-clause-performs : goal.run_node-returns-in-Filtered-clause-performs
run_node-returns-in-Filtered-clause-performs g t c =
    let place = configuration_of g.W.CountedWrite.contents g.W.CountedWrite.failure_count in
    one_performs (setting_of g.H.NamedFilters.named c.args.context.now) c.args.context.now.depth c.args.nodes.now c.args.at c.in-Filtered.end c.args.to c.index-nodes-at.result _ (tree.filtered (map chain_filter_view c.in-Filtered.filters.items)) c.run_filtered.result (place c.args.out.now c.args.state.now) (place c.run_filtered.new.out c.run_filtered.new.state) c.requires c.index-nodes-at.is c.in-Filtered.is refl
    (subst (λ xs. (b : Forest Maker) → IsForestAt c.args.nodes.now (c.args.at + 1) b c.in-Filtered.end → Performs c.run_filtered.result (node_meant (setting_of g.H.NamedFilters.named c.args.context.now) c.args.context.now.depth (tree.filtered (map chain_filter_view xs) (nodes_of b))) (place c.args.out.now c.args.state.now) (place c.run_filtered.new.out c.run_filtered.new.state)) c.deref.ensures.value c.run_filtered.ensures.performs)

pub run_node-returns-in-Filtered-clause-kept : goal.run_node-returns-in-Filtered-clause-kept
run_node-returns-in-Filtered-clause-kept g t c =
    one_keeps (setting_of g.H.NamedFilters.named c.args.context.now) c.args.nodes.now c.args.at c.in-Filtered.end c.args.to c.index-nodes-at.result _ (tree.filtered (map chain_filter_view c.in-Filtered.filters.items)) c.args.state.now c.run_filtered.new.state c.requires c.index-nodes-at.is c.in-Filtered.is refl
    (subst (λ xs. (b : Forest Maker) → IsForestAt c.args.nodes.now (c.args.at + 1) b c.in-Filtered.end → Keeps (node_names (tree.filtered (map chain_filter_view xs) (nodes_of b))) (setting_of g.H.NamedFilters.named c.args.context.now) c.args.state.now c.run_filtered.new.state) c.deref.ensures.value c.run_filtered.ensures.kept)

pub run_node-returns-in-Filtered-clause-alone : goal.run_node-returns-in-Filtered-clause-alone
run_node-returns-in-Filtered-clause-alone g t c = one_other c.args.nodes.now c.args.at c.in-Filtered.end c.args.to c.index-nodes-at.result _ (tree.filtered (map chain_filter_view c.in-Filtered.filters.items)) c.args.state.now c.run_filtered.new.state c.requires c.index-nodes-at.is c.in-Filtered.is refl (λ b no. absurd no)

pub buffers::run_filtered-overflow_add-at : goal.buffers::run_filtered-overflow_add-at
buffers::run_filtered-overflow_add-at g t c =
    let body : IsNodeRange c.args.nodes.now (c.args.at + 1) c.args.end = c.requires in
    let (b, here) = body in
    let le : c.args.at + 1 ≤ c.args.end = Stands-le (flats c.args.nodes.now) (c.args.at + 1) b c.args.end here in
    search rules

pub buffers::run_filtered-run_range-ran-requires : goal.buffers::run_filtered-run_range-ran-requires
buffers::run_filtered-run_range-ran-requires g t c κs within =
    let body : IsNodeRange c.args.nodes.now (c.args.at + 1) c.args.end = c.requires in
    let (b, here) = body in
    let le : c.args.at + 1 ≤ c.args.end = Stands-le (flats c.args.nodes.now) (c.args.at + 1) b c.args.end here in
    (let lt : 4 * (c.args.end - (c.args.at + 1)) + 1 + reserve c.args.context.now.depth c.args.context.now.partials.now < t = omega arith in lt, (within.0, (within.1, body)))

pub buffers::run_filtered-returns-in_err-ran-clause-performs : goal.buffers::run_filtered-returns-in_err-ran-clause-performs
buffers::run_filtered-returns-in_err-ran-clause-performs g t c b here =
    let sink = sink_of g.W.CountedWrite.contents g.W.CountedWrite.failure_count in
    let around = around_buffer g.W.CountedWrite.contents g.W.CountedWrite.failure_count c.args.out.now c.open-outer.new.self c.run_range-ran.new.out c.close-text.new.self c.open-outer.result c.close-text.result
    c.open-outer.ensures.outer c.open-outer.ensures.empty c.open-outer.ensures.writer c.close-text.ensures.text c.close-text.ensures.outer c.close-text.ensures.writer in
    let m = nodes_meant (setting_of g.H.NamedFilters.named c.args.context.now) c.args.context.now.depth (nodes_of b) in
    let filters = map chain_filter_view c.args.filters.now in
    let rest = written_through (setting_of g.H.NamedFilters.named c.args.context.now).answers filters in
    let e = environment_of c.args.state.now in
    let mid = environment_of c.run_range-ran.new.state in
    let p = err_from_is_err_and c.from_residual.result c.from_residual.ensures.1 in
    rw (p.1, p.2) (by_rule (filtered_rule (setting_of g.H.NamedFilters.named c.args.context.now) (deeper_meaning (setting_of g.H.NamedFilters.named c.args.context.now) c.args.context.now.depth) filters (nodes_of b)) (bind_faulted (λ x. x) unit _ (buffered m) rest _ _ (buffered_faulted unit (λ x. x) _ m (sink c.args.out.now) (sink c.open-outer.new.self) (sink c.run_range-ran.new.out) (sink c.close-text.new.self) (string_bytes c.close-text.result) e mid around (c.in_err-ran.ensures.performs b here))))

pub buffers::run_filtered-returns-clause-performs : goal.buffers::run_filtered-returns-clause-performs
buffers::run_filtered-returns-clause-performs g t c b here =
    let sink = sink_of g.W.CountedWrite.contents g.W.CountedWrite.failure_count in
    let around = around_buffer g.W.CountedWrite.contents g.W.CountedWrite.failure_count c.args.out.now c.open-outer.new.self c.run_range-ran.new.out c.close-text.new.self c.open-outer.result c.close-text.result
    c.open-outer.ensures.outer c.open-outer.ensures.empty c.open-outer.ensures.writer c.close-text.ensures.text c.close-text.ensures.outer c.close-text.ensures.writer in
    let m = nodes_meant (setting_of g.H.NamedFilters.named c.args.context.now) c.args.context.now.depth (nodes_of b) in
    let filters = map chain_filter_view c.args.filters.now in
    let rest = written_through (setting_of g.H.NamedFilters.named c.args.context.now).answers filters in
    let e = environment_of c.args.state.now in
    let mid = environment_of c.run_range-ran.new.state in
    by_rule (filtered_rule (setting_of g.H.NamedFilters.named c.args.context.now) (deeper_meaning (setting_of g.H.NamedFilters.named c.args.context.now) c.args.context.now.depth) filters (nodes_of b)) (bind_met (λ x. x) unit (string_bytes c.close-text.result) c.write_filtered.result (buffered m) rest _ (record { sink = sink c.close-text.new.self; environment = mid }) _
    (buffered_met unit _ m (sink c.args.out.now) (sink c.open-outer.new.self) (sink c.run_range-ran.new.out) (sink c.close-text.new.self) (string_bytes c.close-text.result) e mid around (c.in_ok-ran.ensures.performs b here))
    c.write_filtered.ensures.performs)

pub buffers::run_filtered-returns-clause-kept : goal.buffers::run_filtered-returns-clause-kept
unfolding node_names
buffers::run_filtered-returns-clause-kept g t c b here N names inside =
    c.run_range-ran.ensures.kept b here N (right N (filters_names (map chain_filter_view c.args.filters.now)) (nodes_names (nodes_of b)) names) inside

pub buffers::run_filtered-returns-in_err-ran-clause-kept : goal.buffers::run_filtered-returns-in_err-ran-clause-kept
unfolding node_names
buffers::run_filtered-returns-in_err-ran-clause-kept g t c b here N names inside =
    c.run_range-ran.ensures.kept b here N (right N (filters_names (map chain_filter_view c.args.filters.now)) (nodes_names (nodes_of b)) names) inside

-- ---- loops

pub run_node-run_for-requires : goal.run_node-run_for-requires
run_node-run_for-requires g t c κs within =
    let (body, otherwise, past, least, inside) = two c.args.nodes.now c.args.at c.in-For.bodies.first_end c.in-For.bodies.last_end c.args.to c.index-nodes-at.result _ (tree.for_each (string_bytes c.in-For.head.value.variable) (source_view c.in-For.head.value.source) (window_view c.in-For.head.value.window)) c.requires c.index-nodes-at.is c.in-For.is refl in
    (let lt : 4 * (c.in-For.bodies.last_end - c.args.at) - 1 + reserve c.args.context.now.depth c.args.context.now.partials.now < t = omega arith in lt, (within.0, (within.1, (body, otherwise))))

pub run_node-returns-in-For-clause-performs : goal.run_node-returns-in-For-clause-performs
run_node-returns-in-For-clause-performs g t c =
    let place = configuration_of g.W.CountedWrite.contents g.W.CountedWrite.failure_count in
    two_performs (setting_of g.H.NamedFilters.named c.args.context.now) c.args.context.now.depth c.args.nodes.now c.args.at c.in-For.bodies.first_end c.in-For.bodies.last_end c.args.to c.index-nodes-at.result _ (tree.for_each (string_bytes c.in-For.head.value.variable) (source_view c.in-For.head.value.source) (window_view c.in-For.head.value.window)) c.run_for.result (place c.args.out.now c.args.state.now) (place c.run_for.new.out c.run_for.new.state) c.requires c.index-nodes-at.is c.in-For.is refl
    (subst (λ (x : heads_For.For). (b d : Forest Maker) → IsForestAt c.args.nodes.now (c.args.at + 1) b c.in-For.bodies.first_end → IsForestAt c.args.nodes.now c.in-For.bodies.first_end d c.in-For.bodies.last_end → Performs c.run_for.result (node_meant (setting_of g.H.NamedFilters.named c.args.context.now) c.args.context.now.depth ((tree.for_each (string_bytes x.variable) (source_view x.source) (window_view x.window)) (nodes_of b) (nodes_of d))) (place c.args.out.now c.args.state.now) (place c.run_for.new.out c.run_for.new.state)) c.deref-in-For.ensures c.run_for.ensures.performs)

pub run_node-returns-in-For-clause-kept : goal.run_node-returns-in-For-clause-kept
run_node-returns-in-For-clause-kept g t c =
    two_keeps (setting_of g.H.NamedFilters.named c.args.context.now) c.args.nodes.now c.args.at c.in-For.bodies.first_end c.in-For.bodies.last_end c.args.to c.index-nodes-at.result _ (tree.for_each (string_bytes c.in-For.head.value.variable) (source_view c.in-For.head.value.source) (window_view c.in-For.head.value.window)) c.args.state.now c.run_for.new.state c.requires c.index-nodes-at.is c.in-For.is refl
    (subst (λ (x : heads_For.For). (b d : Forest Maker) → IsForestAt c.args.nodes.now (c.args.at + 1) b c.in-For.bodies.first_end → IsForestAt c.args.nodes.now c.in-For.bodies.first_end d c.in-For.bodies.last_end → Keeps (node_names ((tree.for_each (string_bytes x.variable) (source_view x.source) (window_view x.window)) (nodes_of b) (nodes_of d))) (setting_of g.H.NamedFilters.named c.args.context.now) c.args.state.now c.run_for.new.state) c.deref-in-For.ensures c.run_for.ensures.kept)

pub run_node-returns-in-For-clause-alone : goal.run_node-returns-in-For-clause-alone
run_node-returns-in-For-clause-alone g t c =
    two_other c.args.nodes.now c.args.at c.in-For.bodies.first_end c.in-For.bodies.last_end c.args.to c.index-nodes-at.result _ (tree.for_each (string_bytes c.in-For.head.value.variable) (source_view c.in-For.head.value.source) (window_view c.in-For.head.value.window)) c.args.state.now c.run_for.new.state c.requires c.index-nodes-at.is c.in-For.is refl (λ b d no. absurd no)

pub run_node-run_tablerow-requires : goal.run_node-run_tablerow-requires
run_node-run_tablerow-requires g t c κs within =
    let (body, past, inside) = one c.args.nodes.now c.args.at c.in-TableRow.end c.args.to c.index-nodes-at.result _ (tree.tablerow (string_bytes c.in-TableRow.head.value.variable) (source_view c.in-TableRow.head.value.source) (window_view c.in-TableRow.head.value.window) (option_map expression_view c.in-TableRow.head.value.cols)) c.requires c.index-nodes-at.is c.in-TableRow.is refl in
    (let lt : 4 * (c.in-TableRow.end - c.args.at) - 1 + reserve c.args.context.now.depth c.args.context.now.partials.now < t = omega arith in lt, (within.0, (within.1, body)))

pub run_node-returns-in-TableRow-clause-performs : goal.run_node-returns-in-TableRow-clause-performs
run_node-returns-in-TableRow-clause-performs g t c =
    let place = configuration_of g.W.CountedWrite.contents g.W.CountedWrite.failure_count in
    one_performs (setting_of g.H.NamedFilters.named c.args.context.now) c.args.context.now.depth c.args.nodes.now c.args.at c.in-TableRow.end c.args.to c.index-nodes-at.result _ (tree.tablerow (string_bytes c.in-TableRow.head.value.variable) (source_view c.in-TableRow.head.value.source) (window_view c.in-TableRow.head.value.window) (option_map expression_view c.in-TableRow.head.value.cols)) c.run_tablerow.result (place c.args.out.now c.args.state.now) (place c.run_tablerow.new.out c.run_tablerow.new.state) c.requires c.index-nodes-at.is c.in-TableRow.is refl
    (subst (λ (x : heads_TableRow.TableRow). (b : Forest Maker) → IsForestAt c.args.nodes.now (c.args.at + 1) b c.in-TableRow.end → Performs c.run_tablerow.result (node_meant (setting_of g.H.NamedFilters.named c.args.context.now) c.args.context.now.depth ((tree.tablerow (string_bytes x.variable) (source_view x.source) (window_view x.window) (option_map expression_view x.cols)) (nodes_of b))) (place c.args.out.now c.args.state.now) (place c.run_tablerow.new.out c.run_tablerow.new.state)) c.deref-in-TableRow.ensures c.run_tablerow.ensures.performs)

pub run_node-returns-in-TableRow-clause-kept : goal.run_node-returns-in-TableRow-clause-kept
run_node-returns-in-TableRow-clause-kept g t c =
    one_keeps (setting_of g.H.NamedFilters.named c.args.context.now) c.args.nodes.now c.args.at c.in-TableRow.end c.args.to c.index-nodes-at.result _ (tree.tablerow (string_bytes c.in-TableRow.head.value.variable) (source_view c.in-TableRow.head.value.source) (window_view c.in-TableRow.head.value.window) (option_map expression_view c.in-TableRow.head.value.cols)) c.args.state.now c.run_tablerow.new.state c.requires c.index-nodes-at.is c.in-TableRow.is refl
    (subst (λ (x : heads_TableRow.TableRow). (b : Forest Maker) → IsForestAt c.args.nodes.now (c.args.at + 1) b c.in-TableRow.end → Keeps (node_names ((tree.tablerow (string_bytes x.variable) (source_view x.source) (window_view x.window) (option_map expression_view x.cols)) (nodes_of b))) (setting_of g.H.NamedFilters.named c.args.context.now) c.args.state.now c.run_tablerow.new.state) c.deref-in-TableRow.ensures c.run_tablerow.ensures.kept)

pub run_node-returns-in-TableRow-clause-alone : goal.run_node-returns-in-TableRow-clause-alone
run_node-returns-in-TableRow-clause-alone g t c =
    one_other c.args.nodes.now c.args.at c.in-TableRow.end c.args.to c.index-nodes-at.result _ (tree.tablerow (string_bytes c.in-TableRow.head.value.variable) (source_view c.in-TableRow.head.value.source) (window_view c.in-TableRow.head.value.window) (option_map expression_view c.in-TableRow.head.value.cols)) c.args.state.now c.run_tablerow.new.state c.requires c.index-nodes-at.is c.in-TableRow.is refl (λ b no. absurd no)

pub loops::run_turns-run_range-requires : goal.loops::run_turns-run_range-requires
loops::run_turns-run_range-requires g t c κs within =
    (let lt : 4 * (c.args.to - c.args.from) + 1 + reserve c.args.context.now.depth c.args.context.now.partials.now < t = omega arith in lt, (within.0, (within.1, c.requires.range)))

pub loops::run_turns-returns-in_err-run_range-clause-performs : goal.loops::run_turns-returns-in_err-run_range-clause-performs
loops::run_turns-returns-in_err-run_range-clause-performs g t c f stood before u starts =
    let over = enclosing_configuration g.W.CountedWrite.contents g.W.CountedWrite.failure_count in
    let sink = sink_of g.W.CountedWrite.contents g.W.CountedWrite.failure_count in
    let a = c.turns.invariant.frame before u starts in
    let pushed = at_pushed before u c.turns.place c.turns.state (enclosing_scopes (layers_of c.args.state.now).scopes) a c.turns.invariant.scopes in
    let body = (nodes_meant (setting_of g.H.NamedFilters.named c.args.context.now) c.args.context.now.depth (nodes_of f)) in
    let kept = c.in_err-run_range.ensures.kept f stood (λ n. true) (within_all _) (within_all _) in
    let p = err_from_is_err_and c.from_residual.result c.from_residual.ensures.1 in
    rw (p.1, p.2) (turn_fault u (enclosing_names c.args.state.now) body c.args.count c.turns.place (over c.args.out.now c.args.state.now) (over c.turns.out c.turns.state) (over c.run_range.new.out c.run_range.new.state) c.in_err-run_range.field-0.0 c.turns.invariant.within (c.turns.invariant.leads f stood before u starts)
    (turn_faulted u c.turns.place (enclosing_names c.args.state.now) body (sink c.turns.out) (sink c.run_range.new.out) (layers_of c.turns.state) (layers_of c.run_range.new.state) pushed kept.scopes c.in_err-run_range.field-0.0 (c.in_err-run_range.ensures.performs f stood)))

pub loops::run_turns-returns-in_err-run_range-clause-kept : goal.loops::run_turns-returns-in_err-run_range-clause-kept
loops::run_turns-returns-in_err-run_range-clause-kept g t c f stood N names inside =
    kept_cell N (layers_of c.args.state.now) (layers_of c.turns.state) (layers_of c.run_range.new.state) (c.turns.invariant.kept f stood N names inside) (c.in_err-run_range.ensures.kept f stood N names inside)

pub loops::run_turns-returns-in_err-run_range-clause-loops : goal.loops::run_turns-returns-in_err-run_range-clause-loops
loops::run_turns-returns-in_err-run_range-clause-loops g t c =
    let (before, (u, starts)) = c.requires.start in
    ap without_innermost (c.in_err-run_range.ensures.loops) ∙ at_off before u c.turns.place c.turns.state (c.turns.invariant.frame before u starts) ∙ sym (at_off before u 0 c.args.state.now (at_start before u c.args.count c.args.state.now starts))

pub loops::run_turns-returns-then-takes_break-clause-performs : goal.loops::run_turns-returns-then-takes_break-clause-performs
loops::run_turns-returns-then-takes_break-clause-performs g t c f stood before u starts =
    let over = enclosing_configuration g.W.CountedWrite.contents g.W.CountedWrite.failure_count in
    let sink = sink_of g.W.CountedWrite.contents g.W.CountedWrite.failure_count in
    let a = c.turns.invariant.frame before u starts in
    let pushed = at_pushed before u c.turns.place c.turns.state (enclosing_scopes (layers_of c.args.state.now).scopes) a c.turns.invariant.scopes in
    let body = (nodes_meant (setting_of g.H.NamedFilters.named c.args.context.now) c.args.context.now.depth (nodes_of f)) in
    let kept = c.in_ok-run_range.ensures.kept f stood (λ n. true) (within_all _) (within_all _) in
    let ran = turn_ran u c.turns.place (enclosing_names c.args.state.now) body (sink c.turns.out) (sink c.run_range.new.out) (layers_of c.turns.state) (layers_of c.run_range.new.state) pushed kept.scopes c.in_ok-run_range.field-0 (layers_of c.takes_break.new.state) c.takes_break.ensures.cleared (c.in_ok-run_range.ensures.performs f stood) in
    let left = (layers_of c.run_range.new.state).registers.interrupt in
    turn_break u (enclosing_names c.args.state.now) body c.args.count c.turns.place (over c.args.out.now c.args.state.now) (over c.turns.out c.turns.state) (over c.run_range.new.out c.takes_break.new.state) tt left c.turns.invariant.within (c.turns.invariant.leads f stood before u starts) ran (sym c.takes_break.ensures.was ∙ c.if-takes_break.true)

pub loops::run_turns-returns-then-takes_break-clause-kept : goal.loops::run_turns-returns-then-takes_break-clause-kept
loops::run_turns-returns-then-takes_break-clause-kept g t c f stood N names inside =
    kept_turn N (layers_of c.args.state.now) (layers_of c.turns.state) (layers_of c.run_range.new.state) (layers_of c.takes_break.new.state) (c.turns.invariant.kept f stood N names inside) (c.run_range.ensures.kept f stood N names inside) c.takes_break.ensures.cleared

pub loops::run_turns-returns-then-takes_break-clause-loops : goal.loops::run_turns-returns-then-takes_break-clause-loops
loops::run_turns-returns-then-takes_break-clause-loops g t c =
    let (before, (u, starts)) = c.requires.start in
    ap without_innermost (c.takes_break.ensures.loops ∙ c.in_ok-run_range.ensures.loops) ∙ at_off before u c.turns.place c.turns.state (c.turns.invariant.frame before u starts) ∙ sym (at_off before u 0 c.args.state.now (at_start before u c.args.count c.args.state.now starts))

pub loops::run_turns-returns-then-place-count-clause-performs : goal.loops::run_turns-returns-then-place-count-clause-performs
loops::run_turns-returns-then-place-count-clause-performs g t c f stood before u starts =
    let over = enclosing_configuration g.W.CountedWrite.contents g.W.CountedWrite.failure_count in
    let sink = sink_of g.W.CountedWrite.contents g.W.CountedWrite.failure_count in
    let a = c.turns.invariant.frame before u starts in
    let pushed = at_pushed before u c.turns.place c.turns.state (enclosing_scopes (layers_of c.args.state.now).scopes) a c.turns.invariant.scopes in
    let body = (nodes_meant (setting_of g.H.NamedFilters.named c.args.context.now) c.args.context.now.depth (nodes_of f)) in
    let kept = c.in_ok-run_range.ensures.kept f stood (λ n. true) (within_all _) (within_all _) in
    let ran = turn_ran u c.turns.place (enclosing_names c.args.state.now) body (sink c.turns.out) (sink c.run_range.new.out) (layers_of c.turns.state) (layers_of c.run_range.new.state) pushed kept.scopes c.in_ok-run_range.field-0 (layers_of c.takes_break.new.state) c.takes_break.ensures.cleared (c.in_ok-run_range.ensures.performs f stood) in
    let left = (layers_of c.run_range.new.state).registers.interrupt in
    turns_end u (enclosing_names c.args.state.now) body c.args.count tt (c.turns.place + 1) (over c.args.out.now c.args.state.now) (over c.run_range.new.out c.takes_break.new.state) c.if-place-count.true
    (turn_on u (enclosing_names c.args.state.now) body c.args.count c.turns.place (over c.args.out.now c.args.state.now) (over c.turns.out c.turns.state) (over c.run_range.new.out c.takes_break.new.state) left c.turns.invariant.within (c.turns.invariant.leads f stood before u starts) ran (sym c.takes_break.ensures.was ∙ c.if-takes_break.false))

pub loops::run_turns-returns-then-place-count-clause-kept : goal.loops::run_turns-returns-then-place-count-clause-kept
loops::run_turns-returns-then-place-count-clause-kept g t c f stood N names inside =
    kept_turn N (layers_of c.args.state.now) (layers_of c.turns.state) (layers_of c.run_range.new.state) (layers_of c.takes_break.new.state) (c.turns.invariant.kept f stood N names inside) (c.run_range.ensures.kept f stood N names inside) c.takes_break.ensures.cleared

pub loops::run_turns-returns-then-place-count-clause-loops : goal.loops::run_turns-returns-then-place-count-clause-loops
loops::run_turns-returns-then-place-count-clause-loops g t c =
    let (before, (u, starts)) = c.requires.start in
    ap without_innermost (c.takes_break.ensures.loops ∙ c.in_ok-run_range.ensures.loops) ∙ at_off before u c.turns.place c.turns.state (c.turns.invariant.frame before u starts) ∙ sym (at_off before u 0 c.args.state.now (at_start before u c.args.count c.args.state.now starts))

pub loops::run_turns-advance-requires : goal.loops::run_turns-advance-requires
loops::run_turns-advance-requires g t c =
    let (before, (u, starts)) = c.requires.start in
    at_goes_on before u c.turns.place c.args.count c.takes_break.new.state (at_kept before u c.turns.place c.turns.state c.takes_break.new.state (c.takes_break.ensures.loops ∙ c.in_ok-run_range.ensures.loops) (c.turns.invariant.frame before u starts)) starts.count (let within : c.turns.place < c.args.count = c.turns.invariant.within in omega (arith, within, c.if-place-count.false))

pub loops::run_turns-turns-preserved : goal.loops::run_turns-turns-preserved
loops::run_turns-turns-preserved g t c =
    let over = enclosing_configuration g.W.CountedWrite.contents g.W.CountedWrite.failure_count in
    let sink = sink_of g.W.CountedWrite.contents g.W.CountedWrite.failure_count in
    let advanced : (before : List Scope) (u : LoopFrame) → StartsAt c.args.count c.args.state.now before u → with_scope_popped (layers_of c.advance.new.self) ≡ with_scope_popped (layers_of c.takes_break.new.state) = λ before u starts.
    let a = at_kept before u c.turns.place c.turns.state c.takes_break.new.state (c.takes_break.ensures.loops ∙ c.in_ok-run_range.ensures.loops) (c.turns.invariant.frame before u starts) in
    enclosing_after_advance a.now (a.now.at + 1) (layers_of c.takes_break.new.state) (layers_of c.advance.new.self) (c.advance.ensures.turned before a.now a.innermost) in
    let (before0, (u0, starts0)) = c.requires.start in
    let (f0, stood0) = c.requires.range in
    let all = c.in_ok-run_range.ensures.kept f0 stood0 (λ n. true) (within_all _) (within_all _) in
    record {
      within = (let within : c.turns.place < c.args.count = c.turns.invariant.within in omega (arith, within, c.if-place-count.false));
      leads = λ f stood before u starts.
          let a = c.turns.invariant.frame before u starts in
          let pushed = at_pushed before u c.turns.place c.turns.state (enclosing_scopes (layers_of c.args.state.now).scopes) a c.turns.invariant.scopes in
          let body = (nodes_meant (setting_of g.H.NamedFilters.named c.args.context.now) c.args.context.now.depth (nodes_of f)) in
          let kept = c.in_ok-run_range.ensures.kept f stood (λ n. true) (within_all _) (within_all _) in
          let ran = turn_ran u c.turns.place (enclosing_names c.args.state.now) body (sink c.turns.out) (sink c.run_range.new.out) (layers_of c.turns.state) (layers_of c.run_range.new.state) pushed kept.scopes c.in_ok-run_range.field-0 (layers_of c.takes_break.new.state) c.takes_break.ensures.cleared (c.in_ok-run_range.ensures.performs f stood) in
          let left = (layers_of c.run_range.new.state).registers.interrupt in
          subst (λ l. TurnsLead u (enclosing_names c.args.state.now) body c.args.count (c.turns.place + 1) (over c.args.out.now c.args.state.now) (record { sink = sink c.run_range.new.out; environment = merged_layers l })) (sym (advanced before u starts))
          (turn_on u (enclosing_names c.args.state.now) body c.args.count c.turns.place (over c.args.out.now c.args.state.now) (over c.turns.out c.turns.state) (over c.run_range.new.out c.takes_break.new.state) left c.turns.invariant.within (c.turns.invariant.leads f stood before u starts) ran (sym c.takes_break.ensures.was ∙ c.if-takes_break.false));
      frame = λ before u starts. at_next before u c.turns.place c.takes_break.new.state c.advance.new.self (at_kept before u c.turns.place c.turns.state c.takes_break.new.state (c.takes_break.ensures.loops ∙ c.in_ok-run_range.ensures.loops) (c.turns.invariant.frame before u starts)) c.advance.ensures.loops;
      scopes = ap (λ l. l.scopes) (advanced before0 u0 starts0) ∙ ap (λ l. enclosing_scopes l.scopes) c.takes_break.ensures.cleared ∙ ap enclosing_scopes all.scopes ∙ c.turns.invariant.scopes;
      kept = λ f stood N names inside. subst (λ l. LayersKept N (with_scope_popped (layers_of c.args.state.now)) l) (sym (advanced before0 u0 starts0)) (kept_turn N (layers_of c.args.state.now) (layers_of c.turns.state) (layers_of c.run_range.new.state) (layers_of c.takes_break.new.state) (c.turns.invariant.kept f stood N names inside) (c.run_range.ensures.kept f stood N names inside) c.takes_break.ensures.cleared);
      same_writer = c.run_range.ensures.same_writer ∙ c.turns.invariant.same_writer;
      bounded = less_then c.run_range.ensures.bounded c.turns.invariant.bounded;
      limited = c.run_range.ensures.limited ∙ c.turns.invariant.limited;
    }

pub loops::run_turns-turns-init : goal.loops::run_turns-turns-init
loops::run_turns-turns-init g t c =
    let over = enclosing_configuration g.W.CountedWrite.contents g.W.CountedWrite.failure_count in
    let (before, (u, starts)) = c.requires.start in
    record {
      within = (let below : u.at < u.count = u.within.0 in omega (arith, below, starts.first, starts.count));
      leads = λ f stood before u starts. turns_start u (enclosing_names c.args.state.now) (nodes_meant (setting_of g.H.NamedFilters.named c.args.context.now) c.args.context.now.depth (nodes_of f)) c.args.count (over c.args.out.now c.args.state.now) starts.count;
      frame = λ before u starts. at_start before u c.args.count c.args.state.now starts;
      scopes = refl;
      kept = λ f stood N names inside. kept_same N _ _ refl;
      same_writer = refl;
      bounded = no_less;
      limited = refl;
    }

pub loops::run_cells-run_range-requires : goal.loops::run_cells-run_range-requires
loops::run_cells-run_range-requires g t c κs within =
    (let lt : 4 * (c.args.to - c.args.from) + 1 + reserve c.args.context.now.depth c.args.context.now.partials.now < t = omega arith in lt, (within.0, (within.1, c.requires.range)))

pub loops::run_cells-returns-in_err-open-clause-performs : goal.loops::run_cells-returns-in_err-open-clause-performs
loops::run_cells-returns-in_err-open-clause-performs g t c f stood before u starts =
    let over = enclosing_configuration g.W.CountedWrite.contents g.W.CountedWrite.failure_count in
    let sink = sink_of g.W.CountedWrite.contents g.W.CountedWrite.failure_count in
    let body = (nodes_meant (setting_of g.H.NamedFilters.named c.args.context.now) c.args.context.now.depth (nodes_of f)) in
    let p = err_from_is_err_and c.from_residual.result c.from_residual.ensures.1 in
    rw (p.1, p.2) (cell_fault u c.args.row.columns.count (enclosing_names c.args.state.now) body c.args.row.count c.cells.place (over c.args.out.now c.args.state.now) (over c.cells.out c.cells.state) (over c.open.new.out c.cells.state) c.in_err-open.field-0.0 c.cells.invariant.within (c.cells.invariant.leads f stood before u starts)
    (cell_unopened u c.cells.place c.args.row.columns.count (enclosing_names c.args.state.now) body c.in_err-open.field-0.0 (sink c.cells.out) (sink c.open.new.out) _ c.in_err-open.ensures.writes))

pub loops::run_cells-returns-in_err-open-clause-loops : goal.loops::run_cells-returns-in_err-open-clause-loops
loops::run_cells-returns-in_err-open-clause-loops g t c =
    let (before, (u, starts)) = c.requires.start in
    ap without_innermost (refl) ∙ at_off before u c.cells.place c.cells.state (c.cells.invariant.frame before u starts) ∙ sym (at_off before u 0 c.args.state.now (at_start before u c.args.row.count c.args.state.now starts))

pub loops::run_cells-returns-in_err-run_range-clause-performs : goal.loops::run_cells-returns-in_err-run_range-clause-performs
loops::run_cells-returns-in_err-run_range-clause-performs g t c f stood before u starts =
    let over = enclosing_configuration g.W.CountedWrite.contents g.W.CountedWrite.failure_count in
    let sink = sink_of g.W.CountedWrite.contents g.W.CountedWrite.failure_count in
    let a = c.cells.invariant.frame before u starts in
    let pushed = at_pushed before u c.cells.place c.cells.state (enclosing_scopes (layers_of c.args.state.now).scopes) a c.cells.invariant.scopes in
    let body = (nodes_meant (setting_of g.H.NamedFilters.named c.args.context.now) c.args.context.now.depth (nodes_of f)) in
    let kept = c.in_err-run_range.ensures.kept f stood (λ n. true) (within_all _) (within_all _) in
    let p = err_from_is_err_and c.from_residual-in_err-run_range.result c.from_residual-in_err-run_range.ensures.1 in
    rw (p.1, p.2) (cell_fault u c.args.row.columns.count (enclosing_names c.args.state.now) body c.args.row.count c.cells.place (over c.args.out.now c.args.state.now) (over c.cells.out c.cells.state) (over c.run_range.new.out c.run_range.new.state) c.in_err-run_range.field-0.0 c.cells.invariant.within (c.cells.invariant.leads f stood before u starts)
    (cell_faulted u c.cells.place (enclosing_names c.args.state.now) body (sink c.open.new.out) (sink c.run_range.new.out) (layers_of c.cells.state) (layers_of c.run_range.new.state) pushed kept.scopes c.args.row.columns.count c.in_ok-open.field-0 c.in_err-run_range.field-0.0 (sink c.cells.out) c.in_ok-open.ensures.writes (c.in_err-run_range.ensures.performs f stood)))

pub loops::run_cells-returns-in_err-run_range-clause-kept : goal.loops::run_cells-returns-in_err-run_range-clause-kept
loops::run_cells-returns-in_err-run_range-clause-kept g t c f stood N names inside =
    kept_cell N (layers_of c.args.state.now) (layers_of c.cells.state) (layers_of c.run_range.new.state) (c.cells.invariant.kept f stood N names inside) (c.run_range.ensures.kept f stood N names inside)

pub loops::run_cells-returns-in_err-run_range-clause-loops : goal.loops::run_cells-returns-in_err-run_range-clause-loops
loops::run_cells-returns-in_err-run_range-clause-loops g t c =
    let (before, (u, starts)) = c.requires.start in
    ap without_innermost (c.in_err-run_range.ensures.loops) ∙ at_off before u c.cells.place c.cells.state (c.cells.invariant.frame before u starts) ∙ sym (at_off before u 0 c.args.state.now (at_start before u c.args.row.count c.args.state.now starts))

pub loops::run_cells-returns-in_err-close-clause-performs : goal.loops::run_cells-returns-in_err-close-clause-performs
loops::run_cells-returns-in_err-close-clause-performs g t c f stood before u starts =
    let over = enclosing_configuration g.W.CountedWrite.contents g.W.CountedWrite.failure_count in
    let sink = sink_of g.W.CountedWrite.contents g.W.CountedWrite.failure_count in
    let a = c.cells.invariant.frame before u starts in
    let pushed = at_pushed before u c.cells.place c.cells.state (enclosing_scopes (layers_of c.args.state.now).scopes) a c.cells.invariant.scopes in
    let body = (nodes_meant (setting_of g.H.NamedFilters.named c.args.context.now) c.args.context.now.depth (nodes_of f)) in
    let kept = c.in_ok-run_range.ensures.kept f stood (λ n. true) (within_all _) (within_all _) in
    let p = err_from_is_err_and c.from_residual-in_err-close.result c.from_residual-in_err-close.ensures.1 in
    rw (p.1, p.2) (cell_fault u c.args.row.columns.count (enclosing_names c.args.state.now) body c.args.row.count c.cells.place (over c.args.out.now c.args.state.now) (over c.cells.out c.cells.state) (over c.close.new.out c.run_range.new.state) c.in_err-close.field-0.0 c.cells.invariant.within (c.cells.invariant.leads f stood before u starts)
    (cell_ran u c.cells.place (enclosing_names c.args.state.now) body (sink c.open.new.out) (sink c.run_range.new.out) (layers_of c.cells.state) (layers_of c.run_range.new.state) pushed kept.scopes c.args.row.columns.count c.in_ok-open.field-0 c.in_ok-run_range.field-0 (Err c.in_err-close.field-0.0) (sink c.cells.out) (sink c.close.new.out) c.in_ok-open.ensures.writes (c.in_ok-run_range.ensures.performs f stood)
    (subst (λ n. WritesText (Err c.in_err-close.field-0.0) (cell_end c.cells.place n c.args.row.columns.count) (sink c.run_range.new.out) (sink c.close.new.out)) (sym starts.count) c.in_err-close.ensures.writes)))

pub loops::run_cells-returns-in_err-close-clause-kept : goal.loops::run_cells-returns-in_err-close-clause-kept
loops::run_cells-returns-in_err-close-clause-kept g t c f stood N names inside =
    kept_cell N (layers_of c.args.state.now) (layers_of c.cells.state) (layers_of c.run_range.new.state) (c.cells.invariant.kept f stood N names inside) (c.run_range.ensures.kept f stood N names inside)

pub loops::run_cells-returns-in_err-close-clause-loops : goal.loops::run_cells-returns-in_err-close-clause-loops
loops::run_cells-returns-in_err-close-clause-loops g t c =
    let (before, (u, starts)) = c.requires.start in
    ap without_innermost (c.in_ok-run_range.ensures.loops) ∙ at_off before u c.cells.place c.cells.state (c.cells.invariant.frame before u starts) ∙ sym (at_off before u 0 c.args.state.now (at_start before u c.args.row.count c.args.state.now starts))

pub loops::run_cells-returns-then-place-row-clause-performs : goal.loops::run_cells-returns-then-place-row-clause-performs
loops::run_cells-returns-then-place-row-clause-performs g t c f stood before u starts =
    let over = enclosing_configuration g.W.CountedWrite.contents g.W.CountedWrite.failure_count in
    let sink = sink_of g.W.CountedWrite.contents g.W.CountedWrite.failure_count in
    let a = c.cells.invariant.frame before u starts in
    let pushed = at_pushed before u c.cells.place c.cells.state (enclosing_scopes (layers_of c.args.state.now).scopes) a c.cells.invariant.scopes in
    let body = (nodes_meant (setting_of g.H.NamedFilters.named c.args.context.now) c.args.context.now.depth (nodes_of f)) in
    let kept = c.in_ok-run_range.ensures.kept f stood (λ n. true) (within_all _) (within_all _) in
    cells_end u c.args.row.columns.count (enclosing_names c.args.state.now) body c.args.row.count tt (c.cells.place + 1) (over c.args.out.now c.args.state.now) (over c.close.new.out c.run_range.new.state) c.if-place-row.true
    (cell_on u c.args.row.columns.count (enclosing_names c.args.state.now) body c.args.row.count c.cells.place (over c.args.out.now c.args.state.now) (over c.cells.out c.cells.state) (over c.close.new.out c.run_range.new.state) c.in_ok-close.field-0 c.cells.invariant.within (c.cells.invariant.leads f stood before u starts)
    (cell_ran u c.cells.place (enclosing_names c.args.state.now) body (sink c.open.new.out) (sink c.run_range.new.out) (layers_of c.cells.state) (layers_of c.run_range.new.state) pushed kept.scopes c.args.row.columns.count c.in_ok-open.field-0 c.in_ok-run_range.field-0 (Ok c.in_ok-close.field-0) (sink c.cells.out) (sink c.close.new.out) c.in_ok-open.ensures.writes (c.in_ok-run_range.ensures.performs f stood)
    (subst (λ n. WritesText (Ok c.in_ok-close.field-0) (cell_end c.cells.place n c.args.row.columns.count) (sink c.run_range.new.out) (sink c.close.new.out)) (sym starts.count) c.in_ok-close.ensures.writes)))

pub loops::run_cells-returns-then-place-row-clause-kept : goal.loops::run_cells-returns-then-place-row-clause-kept
loops::run_cells-returns-then-place-row-clause-kept g t c f stood N names inside =
    kept_cell N (layers_of c.args.state.now) (layers_of c.cells.state) (layers_of c.run_range.new.state) (c.cells.invariant.kept f stood N names inside) (c.run_range.ensures.kept f stood N names inside)

pub loops::run_cells-returns-then-place-row-clause-loops : goal.loops::run_cells-returns-then-place-row-clause-loops
loops::run_cells-returns-then-place-row-clause-loops g t c =
    let (before, (u, starts)) = c.requires.start in
    ap without_innermost (c.in_ok-run_range.ensures.loops) ∙ at_off before u c.cells.place c.cells.state (c.cells.invariant.frame before u starts) ∙ sym (at_off before u 0 c.args.state.now (at_start before u c.args.row.count c.args.state.now starts))

pub loops::run_cells-open-requires : goal.loops::run_cells-open-requires
loops::run_cells-open-requires g t c =
    let (before, (u, starts)) = c.requires.start in
    let within : c.cells.place < c.args.row.count = c.cells.invariant.within in
    let most : u.count ≤ 9223372036854775807 = u.within.1.0 in
    omega (arith, within, most, starts.count)

pub loops::run_cells-close-requires : goal.loops::run_cells-close-requires
loops::run_cells-close-requires g t c =
    let (before, (u, starts)) = c.requires.start in
    let within : c.cells.place < c.args.row.count = c.cells.invariant.within in
    let most : u.count ≤ 9223372036854775807 = u.within.1.0 in
    omega (arith, within, most, starts.count)

pub loops::run_cells-advance-requires : goal.loops::run_cells-advance-requires
loops::run_cells-advance-requires g t c =
    let (before, (u, starts)) = c.requires.start in
    at_goes_on before u c.cells.place c.args.row.count c.run_range.new.state (at_kept before u c.cells.place c.cells.state c.run_range.new.state c.in_ok-run_range.ensures.loops (c.cells.invariant.frame before u starts)) starts.count (let within : c.cells.place < c.args.row.count = c.cells.invariant.within in omega (arith, within, c.if-place-row.false))

pub loops::run_cells-cells-preserved : goal.loops::run_cells-cells-preserved
loops::run_cells-cells-preserved g t c =
    let over = enclosing_configuration g.W.CountedWrite.contents g.W.CountedWrite.failure_count in
    let sink = sink_of g.W.CountedWrite.contents g.W.CountedWrite.failure_count in
    let advanced : (before : List Scope) (u : LoopFrame) → StartsAt c.args.row.count c.args.state.now before u → with_scope_popped (layers_of c.advance.new.self) ≡ with_scope_popped (layers_of c.run_range.new.state) = λ before u starts.
    let a = at_kept before u c.cells.place c.cells.state c.run_range.new.state c.in_ok-run_range.ensures.loops (c.cells.invariant.frame before u starts) in
    enclosing_after_advance a.now (a.now.at + 1) (layers_of c.run_range.new.state) (layers_of c.advance.new.self) (c.advance.ensures.turned before a.now a.innermost) in
    let (before0, (u0, starts0)) = c.requires.start in
    let (f0, stood0) = c.requires.range in
    let all = c.in_ok-run_range.ensures.kept f0 stood0 (λ n. true) (within_all _) (within_all _) in
    record {
      within = (let within : c.cells.place < c.args.row.count = c.cells.invariant.within in omega (arith, within, c.if-place-row.false));
      leads = λ f stood before u starts.
          let a = c.cells.invariant.frame before u starts in
          let pushed = at_pushed before u c.cells.place c.cells.state (enclosing_scopes (layers_of c.args.state.now).scopes) a c.cells.invariant.scopes in
          let body = (nodes_meant (setting_of g.H.NamedFilters.named c.args.context.now) c.args.context.now.depth (nodes_of f)) in
          let kept = c.in_ok-run_range.ensures.kept f stood (λ n. true) (within_all _) (within_all _) in
          subst (λ l. CellsLead u c.args.row.columns.count (enclosing_names c.args.state.now) body c.args.row.count (c.cells.place + 1) (over c.args.out.now c.args.state.now) (record { sink = sink c.close.new.out; environment = merged_layers l })) (sym (advanced before u starts))
          (cell_on u c.args.row.columns.count (enclosing_names c.args.state.now) body c.args.row.count c.cells.place (over c.args.out.now c.args.state.now) (over c.cells.out c.cells.state) (over c.close.new.out c.run_range.new.state) c.in_ok-close.field-0 c.cells.invariant.within (c.cells.invariant.leads f stood before u starts)
          (cell_ran u c.cells.place (enclosing_names c.args.state.now) body (sink c.open.new.out) (sink c.run_range.new.out) (layers_of c.cells.state) (layers_of c.run_range.new.state) pushed kept.scopes c.args.row.columns.count c.in_ok-open.field-0 c.in_ok-run_range.field-0 (Ok c.in_ok-close.field-0) (sink c.cells.out) (sink c.close.new.out) c.in_ok-open.ensures.writes (c.in_ok-run_range.ensures.performs f stood)
          (subst (λ n. WritesText (Ok c.in_ok-close.field-0) (cell_end c.cells.place n c.args.row.columns.count) (sink c.run_range.new.out) (sink c.close.new.out)) (sym starts.count) c.in_ok-close.ensures.writes)));
      frame = λ before u starts. at_next before u c.cells.place c.run_range.new.state c.advance.new.self (at_kept before u c.cells.place c.cells.state c.run_range.new.state c.in_ok-run_range.ensures.loops (c.cells.invariant.frame before u starts)) c.advance.ensures.loops;
      scopes = ap (λ l. l.scopes) (advanced before0 u0 starts0) ∙ ap enclosing_scopes all.scopes ∙ c.cells.invariant.scopes;
      kept = λ f stood N names inside. subst (λ l. LayersKept N (with_scope_popped (layers_of c.args.state.now)) l) (sym (advanced before0 u0 starts0)) (kept_cell N (layers_of c.args.state.now) (layers_of c.cells.state) (layers_of c.run_range.new.state) (c.cells.invariant.kept f stood N names inside) (c.run_range.ensures.kept f stood N names inside));
      same_writer = c.close.ensures.same_writer ∙ c.run_range.ensures.same_writer ∙ c.open.ensures.same_writer ∙ c.cells.invariant.same_writer;
      bounded = less_then c.close.ensures.bounded (less_then c.run_range.ensures.bounded (less_then c.open.ensures.bounded c.cells.invariant.bounded));
      limited = c.close.ensures.limited ∙ c.run_range.ensures.limited ∙ c.open.ensures.limited ∙ c.cells.invariant.limited;
    }

pub loops::run_cells-cells-init : goal.loops::run_cells-cells-init
loops::run_cells-cells-init g t c =
    let over = enclosing_configuration g.W.CountedWrite.contents g.W.CountedWrite.failure_count in
    let (before, (u, starts)) = c.requires.start in
    record {
      within = (let below : u.at < u.count = u.within.0 in omega (arith, below, starts.first, starts.count));
      leads = λ f stood before u starts. cells_start u c.args.row.columns.count (enclosing_names c.args.state.now) (nodes_meant (setting_of g.H.NamedFilters.named c.args.context.now) c.args.context.now.depth (nodes_of f)) c.args.row.count (over c.args.out.now c.args.state.now) starts.count;
      frame = λ before u starts. at_start before u c.args.row.count c.args.state.now starts;
      scopes = refl;
      kept = λ f stood N names inside. kept_same N _ _ refl;
      same_writer = refl;
      bounded = no_less;
      limited = refl;
    }

pub loops::run_for-overflow_add-at : goal.loops::run_for-overflow_add-at
loops::run_for-overflow_add-at g t c =
    let (b0, here0) = c.requires.body in
    let le : c.args.at + 1 ≤ c.args.bodies.first_end = Stands-le (flats c.args.nodes.now) (c.args.at + 1) b0 c.args.bodies.first_end here0 in
    search rules

pub loops::run_for-returns-in_err-frame-clause-performs : goal.loops::run_for-returns-in_err-frame-clause-performs
loops::run_for-returns-in_err-frame-clause-performs g t c b d here after =
    let place = configuration_of g.W.CountedWrite.contents g.W.CountedWrite.failure_count in
    let p = err_from_is_err_and c.from_residual.result c.from_residual.ensures.1 in
    rw (p.1, p.2) (for_refused (setting_of g.H.NamedFilters.named c.args.context.now) (deeper_meaning (setting_of g.H.NamedFilters.named c.args.context.now) c.args.context.now.depth) (string_bytes c.args.head.now.variable) (source_view c.args.head.now.source) (window_view c.args.head.now.window) (nodes_of b) (nodes_of d) c.in_err-frame.field-0.0 (place c.args.out.now c.args.state.now) c.in_err-frame.ensures.items)

pub loops::run_for-run_range-requires : goal.loops::run_for-run_range-requires
loops::run_for-run_range-requires g t c κs within =
    let (b0, here0) = c.requires.body in
    let (d0, after0) = c.requires.otherwise in
    let le : c.args.at + 1 ≤ c.args.bodies.first_end = Stands-le (flats c.args.nodes.now) (c.args.at + 1) b0 c.args.bodies.first_end here0 in
    let more : c.args.bodies.first_end ≤ c.args.bodies.last_end = Stands-le (flats c.args.nodes.now) c.args.bodies.first_end d0 c.args.bodies.last_end after0 in
    (let lt : 4 * (c.args.bodies.last_end - c.args.bodies.first_end) + 1 + reserve c.args.context.now.depth c.args.context.now.partials.now < t = omega arith in lt, (within.0, (within.1, c.requires.otherwise)))

pub loops::run_for-returns-in_default-clause-performs : goal.loops::run_for-returns-in_default-clause-performs
loops::run_for-returns-in_default-clause-performs g t c b d here after =
    let place = configuration_of g.W.CountedWrite.contents g.W.CountedWrite.failure_count in
    let none : items_asked (source_view c.args.head.now.source) (window_view c.args.head.now.window) (environment_of c.args.state.now) ≡ Ok [] = subst (λ (o : Option LoopFrame). items_asked (source_view c.args.head.now.source) (window_view c.args.head.now.window) (environment_of c.args.state.now) ≡ Ok (loop_values o)) c.in_default.is c.in_ok-frame.ensures.items in
    for_none (setting_of g.H.NamedFilters.named c.args.context.now) (deeper_meaning (setting_of g.H.NamedFilters.named c.args.context.now) c.args.context.now.depth) (string_bytes c.args.head.now.variable) (source_view c.args.head.now.source) (window_view c.args.head.now.window) (nodes_of b) (nodes_of d) c.run_range.result (place c.args.out.now c.args.state.now) (place c.run_range.new.out c.run_range.new.state) none (c.run_range.ensures.performs d after)

pub loops::run_for-returns-in_default-clause-kept : goal.loops::run_for-returns-in_default-clause-kept
loops::run_for-returns-in_default-clause-kept g t c b d here after N names inside =
    c.run_range.ensures.kept d after N (for_within N (string_bytes c.args.head.now.variable) (source_view c.args.head.now.source) (window_view c.args.head.now.window) (nodes_of b) (nodes_of d) names).1 inside

pub loops::run_for-returns-in_err-push_frame-clause-performs : goal.loops::run_for-returns-in_err-push_frame-clause-performs
loops::run_for-returns-in_err-push_frame-clause-performs g t c b d here after =
    let p = err_from_is_err_and c.from_residual-in_err-push_frame.result c.from_residual-in_err-push_frame.ensures.1 in
    rw (p.1, p.2) (memory_at _ c.in_err-push_frame.ensures.pushed)

pub loops::run_for-run_turns-answer-requires : goal.loops::run_for-run_turns-answer-requires
loops::run_for-run_turns-answer-requires g t c κs within =
    let (b0, here0) = c.requires.body in
    let (d0, after0) = c.requires.otherwise in
    let le : c.args.at + 1 ≤ c.args.bodies.first_end = Stands-le (flats c.args.nodes.now) (c.args.at + 1) b0 c.args.bodies.first_end here0 in
    let more : c.args.bodies.first_end ≤ c.args.bodies.last_end = Stands-le (flats c.args.nodes.now) c.args.bodies.first_end d0 c.args.bodies.last_end after0 in
    let begins : IsFor (string_bytes c.args.head.now.variable) (environment_of c.args.state.now) c.in-Some.frame = subst (λ (o : Option LoopFrame). IfSome o (IsFor (string_bytes c.args.head.now.variable) (environment_of c.args.state.now))) c.in-Some.is c.in_ok-frame.ensures.begins in
    let starts : StartsAt c.in-Some.frame.count c.push_frame.new.self (loops_of c.args.state.now) c.in-Some.frame = record { innermost = c.in_ok-push_frame.ensures.over; first = begins.first; count = refl } in
    (let lt : 4 * (c.args.bodies.first_end - (c.args.at + 1)) + 2 + reserve c.args.context.now.depth c.args.context.now.partials.now < t = omega arith in lt, (within.0, (within.1, (c.requires.body, (loops_of c.args.state.now, (c.in-Some.frame, starts))))))

pub loops::run_for-returns-clause-performs : goal.loops::run_for-returns-clause-performs
loops::run_for-returns-clause-performs g t c b d here after =
    let place = configuration_of g.W.CountedWrite.contents g.W.CountedWrite.failure_count in
    let sink = sink_of g.W.CountedWrite.contents g.W.CountedWrite.failure_count in
    let begins : IsFor (string_bytes c.args.head.now.variable) (environment_of c.args.state.now) c.in-Some.frame = subst (λ (o : Option LoopFrame). IfSome o (IsFor (string_bytes c.args.head.now.variable) (environment_of c.args.state.now))) c.in-Some.is c.in_ok-frame.ensures.begins in
    let items : items_asked (source_view c.args.head.now.source) (window_view c.args.head.now.window) (environment_of c.args.state.now) ≡ Ok (turn_items c.in-Some.frame) = subst (λ (o : Option LoopFrame). items_asked (source_view c.args.head.now.source) (window_view c.args.head.now.window) (environment_of c.args.state.now) ≡ Ok (loop_values o)) c.in-Some.is c.in_ok-frame.ensures.items in
    let starts : StartsAt c.in-Some.frame.count c.push_frame.new.self (loops_of c.args.state.now) c.in-Some.frame = record { innermost = c.in_ok-push_frame.ensures.over; first = begins.first; count = refl } in
    let some : 0 < c.in-Some.frame.count = (let below : c.in-Some.frame.at < c.in-Some.frame.count = c.in-Some.frame.within.0 in omega (arith, below)) in
    for_some (setting_of g.H.NamedFilters.named c.args.context.now) (deeper_meaning (setting_of g.H.NamedFilters.named c.args.context.now) c.args.context.now.depth) (string_bytes c.args.head.now.variable) (source_view c.args.head.now.source) (window_view c.args.head.now.window) (nodes_of b) (nodes_of d) c.in-Some.frame c.run_turns-answer.result (place c.args.out.now c.args.state.now) (place c.run_turns-answer.new.out c.pop_scope.new.self) some items begins
    (from_enclosing (frame_map c.in-Some.frame (environment_of c.args.state.now).local) (layers_of c.args.state.now) (layers_of c.push_frame.new.self) (layers_of c.run_turns-answer.new.state) (layers_of c.pop_scope.new.self) c.in_ok-push_frame.ensures.pushed c.pop_scope.ensures.popped c.run_turns-answer.result (λ local. turns_meant c.in-Some.frame local (nodes_meant (setting_of g.H.NamedFilters.named c.args.context.now) c.args.context.now.depth (nodes_of b))) (sink c.args.out.now) (sink c.run_turns-answer.new.out)
    (c.run_turns-answer.ensures.performs b here (loops_of c.args.state.now) c.in-Some.frame starts))

pub loops::run_for-returns-clause-kept : goal.loops::run_for-returns-clause-kept
loops::run_for-returns-clause-kept g t c b d here after N names inside =
    kept_from_enclosing (frame_map c.in-Some.frame (environment_of c.args.state.now).local) (layers_of c.args.state.now) (layers_of c.push_frame.new.self) (layers_of c.run_turns-answer.new.state) (layers_of c.pop_scope.new.self) c.in_ok-push_frame.ensures.pushed c.pop_scope.ensures.popped N
    (c.run_turns-answer.ensures.kept b here N (for_within N (string_bytes c.args.head.now.variable) (source_view c.args.head.now.source) (window_view c.args.head.now.window) (nodes_of b) (nodes_of d) names).0 inside)

pub loops::run_for-returns-clause-loops : goal.loops::run_for-returns-clause-loops
loops::run_for-returns-clause-loops g t c =
    c.pop_scope.ensures.loops ∙ c.run_turns-answer.ensures.loops ∙ ap without_innermost c.in_ok-push_frame.ensures.over ∙ turn_off (loops_of c.args.state.now) c.in-Some.frame

pub loops::run_tablerow-overflow_add-at : goal.loops::run_tablerow-overflow_add-at
loops::run_tablerow-overflow_add-at g t c =
    let (b0, here0) = c.requires in
    let le : c.args.at + 1 ≤ c.args.end = Stands-le (flats c.args.nodes.now) (c.args.at + 1) b0 c.args.end here0 in
    search rules

pub loops::run_tablerow-returns-in_err-frame-clause-performs : goal.loops::run_tablerow-returns-in_err-frame-clause-performs
loops::run_tablerow-returns-in_err-frame-clause-performs g t c b here =
    let place = configuration_of g.W.CountedWrite.contents g.W.CountedWrite.failure_count in
    let p = err_from_is_err_and c.from_residual.result c.from_residual.ensures.1 in
    rw (p.1, p.2) (row_refused (setting_of g.H.NamedFilters.named c.args.context.now) (deeper_meaning (setting_of g.H.NamedFilters.named c.args.context.now) c.args.context.now.depth) (string_bytes c.args.head.now.variable) (source_view c.args.head.now.source) (window_view c.args.head.now.window) (option_map expression_view c.args.head.now.cols) (nodes_of b) c.in_err-frame.field-0.0 (place c.args.out.now c.args.state.now) c.in_err-frame.ensures.items)

pub loops::run_tablerow-returns-in_default-clause-performs : goal.loops::run_tablerow-returns-in_default-clause-performs
loops::run_tablerow-returns-in_default-clause-performs g t c b here =
    let place = configuration_of g.W.CountedWrite.contents g.W.CountedWrite.failure_count in
    let none : cells_asked (source_view c.args.head.now.source) (window_view c.args.head.now.window) (option_map expression_view c.args.head.now.cols) (environment_of c.args.state.now) ≡ Ok None = subst (λ o. cells_asked (source_view c.args.head.now.source) (window_view c.args.head.now.window) (option_map expression_view c.args.head.now.cols) (environment_of c.args.state.now) ≡ Ok (cells_of o)) c.in_default.is c.in_ok-frame.ensures.items in
    row_none (setting_of g.H.NamedFilters.named c.args.context.now) (deeper_meaning (setting_of g.H.NamedFilters.named c.args.context.now) c.args.context.now.depth) (string_bytes c.args.head.now.variable) (source_view c.args.head.now.source) (window_view c.args.head.now.window) (option_map expression_view c.args.head.now.cols) (nodes_of b) tt (place c.args.out.now c.args.state.now) none

pub loops::run_tablerow-returns-in_err-push_frame-clause-performs : goal.loops::run_tablerow-returns-in_err-push_frame-clause-performs
loops::run_tablerow-returns-in_err-push_frame-clause-performs g t c b here =
    let p = err_from_is_err_and c.from_residual-in_err-push_frame.result c.from_residual-in_err-push_frame.ensures.1 in
    rw (p.1, p.2) (memory_at _ c.in_err-push_frame.ensures.pushed)

pub loops::run_tablerow-run_cells-answer-requires : goal.loops::run_tablerow-run_cells-answer-requires
loops::run_tablerow-run_cells-answer-requires g t c κs within =
    let (b0, here0) = c.requires in
    let le : c.args.at + 1 ≤ c.args.end = Stands-le (flats c.args.nodes.now) (c.args.at + 1) b0 c.args.end here0 in
    let begins : IsRow (string_bytes c.args.head.now.variable) c.in-Some.columns.count c.in-Some.frame = subst (AreRows (string_bytes c.args.head.now.variable)) c.in-Some.is c.in_ok-frame.ensures.begins in
    let starts : StartsAt c.in-Some.frame.count c.push_frame.new.self (loops_of c.args.state.now) c.in-Some.frame = record { innermost = c.in_ok-push_frame.ensures.over; first = begins.first; count = refl } in
    (let lt : 4 * (c.args.end - (c.args.at + 1)) + 2 + reserve c.args.context.now.depth c.args.context.now.partials.now < t = omega arith in lt, (within.0, (within.1, (c.requires, (loops_of c.args.state.now, (c.in-Some.frame, starts))))))

pub loops::run_tablerow-returns-clause-performs : goal.loops::run_tablerow-returns-clause-performs
loops::run_tablerow-returns-clause-performs g t c b here =
    let place = configuration_of g.W.CountedWrite.contents g.W.CountedWrite.failure_count in
    let sink = sink_of g.W.CountedWrite.contents g.W.CountedWrite.failure_count in
    let begins : IsRow (string_bytes c.args.head.now.variable) c.in-Some.columns.count c.in-Some.frame = subst (AreRows (string_bytes c.args.head.now.variable)) c.in-Some.is c.in_ok-frame.ensures.begins in
    let items : cells_asked (source_view c.args.head.now.source) (window_view c.args.head.now.window) (option_map expression_view c.args.head.now.cols) (environment_of c.args.state.now) ≡ Ok (Some (turn_items c.in-Some.frame, c.in-Some.columns.count)) = subst (λ o. cells_asked (source_view c.args.head.now.source) (window_view c.args.head.now.window) (option_map expression_view c.args.head.now.cols) (environment_of c.args.state.now) ≡ Ok (cells_of o)) c.in-Some.is c.in_ok-frame.ensures.items in
    let starts : StartsAt c.in-Some.frame.count c.push_frame.new.self (loops_of c.args.state.now) c.in-Some.frame = record { innermost = c.in_ok-push_frame.ensures.over; first = begins.first; count = refl } in
    row_some (setting_of g.H.NamedFilters.named c.args.context.now) (deeper_meaning (setting_of g.H.NamedFilters.named c.args.context.now) c.args.context.now.depth) (string_bytes c.args.head.now.variable) (source_view c.args.head.now.source) (window_view c.args.head.now.window) (option_map expression_view c.args.head.now.cols) (nodes_of b) c.in-Some.frame c.in-Some.columns.count c.run_cells-answer.result (place c.args.out.now c.args.state.now) (place c.run_cells-answer.new.out c.pop_scope.new.self) items begins
    (from_enclosing (frame_map c.in-Some.frame (environment_of c.args.state.now).local) (layers_of c.args.state.now) (layers_of c.push_frame.new.self) (layers_of c.run_cells-answer.new.state) (layers_of c.pop_scope.new.self) c.in_ok-push_frame.ensures.pushed c.pop_scope.ensures.popped c.run_cells-answer.result (λ local. cells_meant c.in-Some.frame c.in-Some.columns.count local (nodes_meant (setting_of g.H.NamedFilters.named c.args.context.now) c.args.context.now.depth (nodes_of b))) (sink c.args.out.now) (sink c.run_cells-answer.new.out)
    (c.run_cells-answer.ensures.performs b here (loops_of c.args.state.now) c.in-Some.frame starts))

pub loops::run_tablerow-returns-clause-kept : goal.loops::run_tablerow-returns-clause-kept
loops::run_tablerow-returns-clause-kept g t c b here N names inside =
    kept_from_enclosing (frame_map c.in-Some.frame (environment_of c.args.state.now).local) (layers_of c.args.state.now) (layers_of c.push_frame.new.self) (layers_of c.run_cells-answer.new.state) (layers_of c.pop_scope.new.self) c.in_ok-push_frame.ensures.pushed c.pop_scope.ensures.popped N
    (c.run_cells-answer.ensures.kept b here N (row_within N (string_bytes c.args.head.now.variable) (source_view c.args.head.now.source) (window_view c.args.head.now.window) (option_map expression_view c.args.head.now.cols) (nodes_of b) names) inside)

pub loops::run_tablerow-returns-clause-loops : goal.loops::run_tablerow-returns-clause-loops
loops::run_tablerow-returns-clause-loops g t c =
    c.pop_scope.ensures.loops ∙ c.run_cells-answer.ensures.loops ∙ ap without_innermost c.in_ok-push_frame.ensures.over ∙ turn_off (loops_of c.args.state.now) c.in-Some.frame

-- ---- choices

pub run_node-run_chosen-requires : goal.run_node-run_chosen-requires
run_node-run_chosen-requires g t c κs within =
    let (body, otherwise, past, ordered, inside) = two c.args.nodes.now c.args.at c.in-If.bodies.first_end c.in-If.bodies.last_end c.args.to c.index-nodes-at.result _ (tree.if_true (condition_view c.in-If.condition)) c.requires c.index-nodes-at.is c.in-If.is refl in
    let (b, here) = body in
    let (d, after) = otherwise in
    let n = tree.if_true (condition_view c.in-If.condition) (nodes_of b) (nodes_of d) in
    let lt : 4 * (c.args.to - c.args.at) - 1 + reserve c.args.context.now.depth c.args.context.now.partials.now < t = omega arith in
    (lt, (within.0, (within.1, chosen_inside c.args.nodes.now (environment_of c.args.state.now) (node_names n) (λ setting deeper. node_meaning setting deeper n) c.args.at c.in-If.bodies.last_end c.args.to _ inside c.chosen_range-chosen.ensures.inside (c.chosen_range-chosen.ensures.chosen b d here after))))

pub run_node-returns-in-If-clause-performs : goal.run_node-returns-in-If-clause-performs
run_node-returns-in-If-clause-performs g t c =
    let place = configuration_of g.W.CountedWrite.contents g.W.CountedWrite.failure_count in
    two_performs (setting_of g.H.NamedFilters.named c.args.context.now) c.args.context.now.depth c.args.nodes.now c.args.at c.in-If.bodies.first_end c.in-If.bodies.last_end c.args.to c.index-nodes-at.result _ (tree.if_true (condition_view c.in-If.condition)) c.run_chosen.result (place c.args.out.now c.args.state.now) (place c.run_chosen.new.out c.run_chosen.new.state) c.requires c.index-nodes-at.is c.in-If.is refl
    (λ b d here after. c.run_chosen.ensures.performs (tree.if_true (condition_view c.in-If.condition) (nodes_of b) (nodes_of d)) (c.chosen_range-chosen.ensures.chosen b d here after))

pub run_node-returns-in-If-clause-kept : goal.run_node-returns-in-If-clause-kept
run_node-returns-in-If-clause-kept g t c =
    two_keeps (setting_of g.H.NamedFilters.named c.args.context.now) c.args.nodes.now c.args.at c.in-If.bodies.first_end c.in-If.bodies.last_end c.args.to c.index-nodes-at.result _ (tree.if_true (condition_view c.in-If.condition)) c.args.state.now c.run_chosen.new.state c.requires c.index-nodes-at.is c.in-If.is refl
    (λ b d here after. c.run_chosen.ensures.kept (tree.if_true (condition_view c.in-If.condition) (nodes_of b) (nodes_of d)) (c.chosen_range-chosen.ensures.chosen b d here after))

pub run_node-returns-in-If-clause-alone : goal.run_node-returns-in-If-clause-alone
run_node-returns-in-If-clause-alone g t c = two_other c.args.nodes.now c.args.at c.in-If.bodies.first_end c.in-If.bodies.last_end c.args.to c.index-nodes-at.result _ (tree.if_true (condition_view c.in-If.condition)) c.args.state.now c.run_chosen.new.state c.requires c.index-nodes-at.is c.in-If.is refl (λ b d no. absurd no)

pub run_node-run_chosen-requires-in-Unless : goal.run_node-run_chosen-requires-in-Unless
run_node-run_chosen-requires-in-Unless g t c κs within =
    let (body, otherwise, past, ordered, inside) = two c.args.nodes.now c.args.at c.in-Unless.bodies.first_end c.in-Unless.bodies.last_end c.args.to c.index-nodes-at.result _ (tree.unless (condition_view c.in-Unless.condition)) c.requires c.index-nodes-at.is c.in-Unless.is refl in
    let (b, here) = body in
    let (d, after) = otherwise in
    let n = tree.unless (condition_view c.in-Unless.condition) (nodes_of b) (nodes_of d) in
    let lt : 4 * (c.args.to - c.args.at) - 1 + reserve c.args.context.now.depth c.args.context.now.partials.now < t = omega arith in
    (lt, (within.0, (within.1, chosen_inside c.args.nodes.now (environment_of c.args.state.now) (node_names n) (λ setting deeper. node_meaning setting deeper n) c.args.at c.in-Unless.bodies.last_end c.args.to _ inside c.unless_range-chosen.ensures.inside (c.unless_range-chosen.ensures.chosen b d here after))))

pub run_node-returns-in-Unless-clause-performs : goal.run_node-returns-in-Unless-clause-performs
run_node-returns-in-Unless-clause-performs g t c =
    let place = configuration_of g.W.CountedWrite.contents g.W.CountedWrite.failure_count in
    two_performs (setting_of g.H.NamedFilters.named c.args.context.now) c.args.context.now.depth c.args.nodes.now c.args.at c.in-Unless.bodies.first_end c.in-Unless.bodies.last_end c.args.to c.index-nodes-at.result _ (tree.unless (condition_view c.in-Unless.condition)) c.run_chosen-in-Unless.result (place c.args.out.now c.args.state.now) (place c.run_chosen-in-Unless.new.out c.run_chosen-in-Unless.new.state) c.requires c.index-nodes-at.is c.in-Unless.is refl
    (λ b d here after. c.run_chosen-in-Unless.ensures.performs (tree.unless (condition_view c.in-Unless.condition) (nodes_of b) (nodes_of d)) (c.unless_range-chosen.ensures.chosen b d here after))

pub run_node-returns-in-Unless-clause-kept : goal.run_node-returns-in-Unless-clause-kept
run_node-returns-in-Unless-clause-kept g t c =
    two_keeps (setting_of g.H.NamedFilters.named c.args.context.now) c.args.nodes.now c.args.at c.in-Unless.bodies.first_end c.in-Unless.bodies.last_end c.args.to c.index-nodes-at.result _ (tree.unless (condition_view c.in-Unless.condition)) c.args.state.now c.run_chosen-in-Unless.new.state c.requires c.index-nodes-at.is c.in-Unless.is refl
    (λ b d here after. c.run_chosen-in-Unless.ensures.kept (tree.unless (condition_view c.in-Unless.condition) (nodes_of b) (nodes_of d)) (c.unless_range-chosen.ensures.chosen b d here after))

pub run_node-returns-in-Unless-clause-alone : goal.run_node-returns-in-Unless-clause-alone
run_node-returns-in-Unless-clause-alone g t c = two_other c.args.nodes.now c.args.at c.in-Unless.bodies.first_end c.in-Unless.bodies.last_end c.args.to c.index-nodes-at.result _ (tree.unless (condition_view c.in-Unless.condition)) c.args.state.now c.run_chosen-in-Unless.new.state c.requires c.index-nodes-at.is c.in-Unless.is refl (λ b d no. absurd no)

pub run_node-run_chosen-requires-in-Case : goal.run_node-run_chosen-requires-in-Case
run_node-run_chosen-requires-in-Case g t c κs within =
    let (stands, past, inside) = the_case c.args.nodes.now c.args.at (expression_view c.in-Case.target) c.in-Case.arms.items c.in-Case.last c.args.to c.index-nodes-at.result _ c.requires c.index-nodes-at.is c.in-Case.is refl in
    let (ws, o, here) = stands in
    let n = tree.case_of (expression_view c.in-Case.target) ws o in
    let lt : 4 * (c.args.to - c.args.at) - 1 + reserve c.args.context.now.depth c.args.context.now.partials.now < t = omega arith in (
      lt,
      (
        within.0,
        (
          within.1,
          chosen_inside c.args.nodes.now (environment_of c.args.state.now) (node_names n) (λ setting deeper. node_meaning setting deeper n) c.args.at c.in-Case.last c.args.to _ inside c.case_range-chosen.ensures.inside
              (c.case_range-chosen.ensures.chosen ws o (subst (λ arms. CaseStands c.args.nodes.now (c.args.at + 1) arms c.in-Case.last ws o) (sym c.deref-in-Case.ensures.value) here)),
        ),
      ),
    )

pub run_node-returns-in-Case-clause-performs : goal.run_node-returns-in-Case-clause-performs
run_node-returns-in-Case-clause-performs g t c =
    let place = configuration_of g.W.CountedWrite.contents g.W.CountedWrite.failure_count in
    case_performs c.args.nodes.now c.args.at (expression_view c.in-Case.target) c.in-Case.arms.items c.in-Case.last c.args.to c.index-nodes-at.result _ c.requires c.index-nodes-at.is c.in-Case.is refl (setting_of g.H.NamedFilters.named c.args.context.now) c.args.context.now.depth c.run_chosen-in-Case.result (place c.args.out.now c.args.state.now) (place c.run_chosen-in-Case.new.out c.run_chosen-in-Case.new.state)
    (λ ws o here. c.run_chosen-in-Case.ensures.performs (tree.case_of (expression_view c.in-Case.target) ws o) (c.case_range-chosen.ensures.chosen ws o (subst (λ arms. CaseStands c.args.nodes.now (c.args.at + 1) arms c.in-Case.last ws o) (sym c.deref-in-Case.ensures.value) here)))

pub run_node-returns-in-Case-clause-kept : goal.run_node-returns-in-Case-clause-kept
run_node-returns-in-Case-clause-kept g t c = case_keeps c.args.nodes.now c.args.at (expression_view c.in-Case.target) c.in-Case.arms.items c.in-Case.last c.args.to c.index-nodes-at.result _ c.requires c.index-nodes-at.is c.in-Case.is refl (setting_of g.H.NamedFilters.named c.args.context.now) c.args.state.now c.run_chosen-in-Case.new.state
    (λ ws o here. c.run_chosen-in-Case.ensures.kept (tree.case_of (expression_view c.in-Case.target) ws o) (c.case_range-chosen.ensures.chosen ws o (subst (λ arms. CaseStands c.args.nodes.now (c.args.at + 1) arms c.in-Case.last ws o) (sym c.deref-in-Case.ensures.value) here)))

pub run_node-returns-in-Case-clause-alone : goal.run_node-returns-in-Case-clause-alone
run_node-returns-in-Case-clause-alone g t c = case_other c.args.nodes.now c.args.at (expression_view c.in-Case.target) c.in-Case.arms.items c.in-Case.last c.args.to c.index-nodes-at.result _ c.requires c.index-nodes-at.is c.in-Case.is refl c.args.state.now c.run_chosen-in-Case.new.state

pub run_node-chosen_range-chosen-requires-clause-body : goal.run_node-chosen_range-chosen-requires-clause-body
run_node-chosen_range-chosen-requires-clause-body g t c = (two c.args.nodes.now c.args.at c.in-If.bodies.first_end c.in-If.bodies.last_end c.args.to c.index-nodes-at.result _ (tree.if_true (condition_view c.in-If.condition)) c.requires c.index-nodes-at.is c.in-If.is refl).0

pub run_node-chosen_range-chosen-requires-clause-otherwise : goal.run_node-chosen_range-chosen-requires-clause-otherwise
run_node-chosen_range-chosen-requires-clause-otherwise g t c = (two c.args.nodes.now c.args.at c.in-If.bodies.first_end c.in-If.bodies.last_end c.args.to c.index-nodes-at.result _ (tree.if_true (condition_view c.in-If.condition)) c.requires c.index-nodes-at.is c.in-If.is refl).1

pub run_node-unless_range-chosen-requires-clause-body : goal.run_node-unless_range-chosen-requires-clause-body
run_node-unless_range-chosen-requires-clause-body g t c = (two c.args.nodes.now c.args.at c.in-Unless.bodies.first_end c.in-Unless.bodies.last_end c.args.to c.index-nodes-at.result _ (tree.unless (condition_view c.in-Unless.condition)) c.requires c.index-nodes-at.is c.in-Unless.is refl).0

pub run_node-unless_range-chosen-requires-clause-otherwise : goal.run_node-unless_range-chosen-requires-clause-otherwise
run_node-unless_range-chosen-requires-clause-otherwise g t c = (two c.args.nodes.now c.args.at c.in-Unless.bodies.first_end c.in-Unless.bodies.last_end c.args.to c.index-nodes-at.result _ (tree.unless (condition_view c.in-Unless.condition)) c.requires c.index-nodes-at.is c.in-Unless.is refl).1

pub run_node-case_range-chosen-requires : goal.run_node-case_range-chosen-requires
run_node-case_range-chosen-requires g t c =
    let (stands, past, inside) = the_case c.args.nodes.now c.args.at (expression_view c.in-Case.target) c.in-Case.arms.items c.in-Case.last c.args.to c.index-nodes-at.result _ c.requires c.index-nodes-at.is c.in-Case.is refl in
    subst (λ arms. HasCaseAt c.args.nodes.now (c.args.at + 1) arms c.in-Case.last) (sym c.deref-in-Case.ensures.value) stands

pub run_chosen-returns-in-Err-clause-performs : goal.run_chosen-returns-in-Err-clause-performs
run_chosen-returns-in-Err-clause-performs g t c n comes =
    let place = configuration_of g.W.CountedWrite.contents g.W.CountedWrite.failure_count in
    refused_performs c.args.nodes.now (node_names n) (λ setting deeper. node_meaning setting deeper n) c.args.context.now.depth (setting_of g.H.NamedFilters.named c.args.context.now) c.in-Err.fault (place c.args.out.now c.args.state.now)
    (subst (λ r. NodeComesTo c.args.nodes.now (environment_of c.args.state.now) n r) c.in-Err.is comes)

pub run_chosen-run_range-requires : goal.run_chosen-run_range-requires
run_chosen-run_range-requires g t c κs within =
    let chosen : IfOk {T = ℕ × ℕ} {E = Error} (Ok c.in-Ok.range) (λ range. (c.args.at < range.0) × (range.1 ≤ c.args.to) × IsNodeRange c.args.nodes.now range.0 range.1) =
    subst (λ r. IfOk r (λ range. (c.args.at < range.0) × (range.1 ≤ c.args.to) × IsNodeRange c.args.nodes.now range.0 range.1)) c.in-Ok.is c.requires in
    let (first, last, (f, stands)) = chosen in
    let order : c.in-Ok.range.0 ≤ c.in-Ok.range.1 = Stands-le (flats c.args.nodes.now) c.in-Ok.range.0 f c.in-Ok.range.1 stands in
    (let lt : 4 * (c.in-Ok.range.1 - c.in-Ok.range.0) + 1 + reserve c.args.context.now.depth c.args.context.now.partials.now < t = omega arith in lt, (within.0, (within.1, (f, stands))))

pub run_chosen-returns-in-Ok-clause-performs : goal.run_chosen-returns-in-Ok-clause-performs
run_chosen-returns-in-Ok-clause-performs g t c n comes =
    let place = configuration_of g.W.CountedWrite.contents g.W.CountedWrite.failure_count in
    chosen_performs c.args.nodes.now (node_names n) (λ setting deeper. node_meaning setting deeper n) c.in-Ok.range.0 c.in-Ok.range.1 c.args.context.now.depth (setting_of g.H.NamedFilters.named c.args.context.now) c.run_range.result (place c.args.out.now c.args.state.now) (place c.run_range.new.out c.run_range.new.state)
    (subst (λ r. NodeComesTo c.args.nodes.now (environment_of c.args.state.now) n r) c.in-Ok.is comes) c.run_range.ensures.performs

pub run_chosen-returns-in-Ok-clause-kept : goal.run_chosen-returns-in-Ok-clause-kept
run_chosen-returns-in-Ok-clause-kept g t c n comes N names inside =
    let x : Chosen c.args.nodes.now (environment_of c.args.state.now) (node_names n) (λ setting deeper. node_meaning setting deeper n) c.in-Ok.range.0 c.in-Ok.range.1 =
    subst (λ r. NodeComesTo c.args.nodes.now (environment_of c.args.state.now) n r) c.in-Ok.is comes in
    c.run_range.ensures.kept x.nodes x.stands N (x.within N names) inside

-- ---- nodes for which a run takes no memory

pub run_node-returns-in-Text-clause-silent : goal.run_node-returns-in-Text-clause-silent
run_node-returns-in-Text-clause-silent g t c n next there silent = absurd (leaf_loud c.args.nodes.now c.args.at c.args.to c.index-nodes-at.result _ (tree.plain (string_bytes c.in-Text.text)) c.requires c.index-nodes-at.is c.in-Text.is refl (λ no. absurd no) n next there silent)

pub run_node-returns-in-Output-clause-silent : goal.run_node-returns-in-Output-clause-silent
run_node-returns-in-Output-clause-silent g t c n next there silent = absurd (leaf_loud c.args.nodes.now c.args.at c.args.to c.index-nodes-at.result _ (tree.output (chain_view c.in-Output.chain)) c.requires c.index-nodes-at.is c.in-Output.is refl (λ no. absurd no) n next there silent)

pub run_node-returns-in-Assign-clause-silent : goal.run_node-returns-in-Assign-clause-silent
run_node-returns-in-Assign-clause-silent g t c n next there silent = absurd (leaf_loud c.args.nodes.now c.args.at c.args.to c.index-nodes-at.result _ (tree.assign (string_bytes c.in-Assign.name) (chain_view c.in-Assign.chain)) c.requires c.index-nodes-at.is c.in-Assign.is refl (λ no. absurd no) n next there silent)

pub run_node-returns-in-Raw-clause-silent : goal.run_node-returns-in-Raw-clause-silent
run_node-returns-in-Raw-clause-silent g t c n next there silent = absurd (leaf_loud c.args.nodes.now c.args.at c.args.to c.index-nodes-at.result _ (tree.raw (string_bytes c.in-Raw.text)) c.requires c.index-nodes-at.is c.in-Raw.is refl (λ no. absurd no) n next there silent)

pub run_node-returns-in-Capture-clause-silent : goal.run_node-returns-in-Capture-clause-silent
run_node-returns-in-Capture-clause-silent g t c n next there silent = absurd (one_loud c.args.nodes.now c.args.at c.in-Capture.end c.args.to c.index-nodes-at.result _ (tree.capture (string_bytes c.in-Capture.name)) c.requires c.index-nodes-at.is c.in-Capture.is refl (λ b no. absurd no) n next there silent)

pub run_node-returns-in-Include-clause-silent : goal.run_node-returns-in-Include-clause-silent
run_node-returns-in-Include-clause-silent g t c n next there silent = absurd (leaf_loud c.args.nodes.now c.args.at c.args.to c.index-nodes-at.result _ (tree.include (expression_view c.in-Include.name) (bindings_view c.in-Include.bindings.items)) c.requires c.index-nodes-at.is c.in-Include.is refl (λ no. absurd no) n next there silent)

pub run_node-returns-in-JekyllInclude-clause-silent : goal.run_node-returns-in-JekyllInclude-clause-silent
run_node-returns-in-JekyllInclude-clause-silent g t c n next there silent = absurd (leaf_loud c.args.nodes.now c.args.at c.args.to c.index-nodes-at.result _ (tree.jekyll_include (string_bytes c.in-JekyllInclude.name) (bindings_view c.in-JekyllInclude.bindings.items)) c.requires c.index-nodes-at.is c.in-JekyllInclude.is refl (λ no. absurd no) n next there silent)

pub run_node-returns-in-Increment-clause-silent : goal.run_node-returns-in-Increment-clause-silent
run_node-returns-in-Increment-clause-silent g t c n next there silent = absurd (leaf_loud c.args.nodes.now c.args.at c.args.to c.index-nodes-at.result _ (tree.increment (string_bytes c.in-Increment.name)) c.requires c.index-nodes-at.is c.in-Increment.is refl (λ no. absurd no) n next there silent)

pub run_node-returns-in-Decrement-clause-silent : goal.run_node-returns-in-Decrement-clause-silent
run_node-returns-in-Decrement-clause-silent g t c n next there silent = absurd (leaf_loud c.args.nodes.now c.args.at c.args.to c.index-nodes-at.result _ (tree.decrement (string_bytes c.in-Decrement.name)) c.requires c.index-nodes-at.is c.in-Decrement.is refl (λ no. absurd no) n next there silent)

pub run_node-returns-in-Cycle-clause-silent : goal.run_node-returns-in-Cycle-clause-silent
run_node-returns-in-Cycle-clause-silent g t c n next there silent = absurd (leaf_loud c.args.nodes.now c.args.at c.args.to c.index-nodes-at.result _ (tree.cycle (string_bytes c.in-Cycle.group) (map expression_view c.in-Cycle.values.items)) c.requires c.index-nodes-at.is c.in-Cycle.is refl (λ no. absurd no) n next there silent)

pub run_node-returns-in-IfChanged-clause-silent : goal.run_node-returns-in-IfChanged-clause-silent
run_node-returns-in-IfChanged-clause-silent g t c n next there silent = absurd (one_loud c.args.nodes.now c.args.at c.in-IfChanged.end c.args.to c.index-nodes-at.result _ tree.ifchanged c.requires c.index-nodes-at.is c.in-IfChanged.is refl (λ b no. absurd no) n next there silent)

pub run_node-returns-in-Filtered-clause-silent : goal.run_node-returns-in-Filtered-clause-silent
run_node-returns-in-Filtered-clause-silent g t c n next there silent = absurd (one_loud c.args.nodes.now c.args.at c.in-Filtered.end c.args.to c.index-nodes-at.result _ (tree.filtered (map chain_filter_view c.in-Filtered.filters.items)) c.requires c.index-nodes-at.is c.in-Filtered.is refl (λ b no. absurd no) n next there silent)

pub run_node-returns-in-For-clause-silent : goal.run_node-returns-in-For-clause-silent
run_node-returns-in-For-clause-silent g t c n next there silent = absurd (two_loud c.args.nodes.now c.args.at c.in-For.bodies.first_end c.in-For.bodies.last_end c.args.to c.index-nodes-at.result _ (tree.for_each (string_bytes c.in-For.head.value.variable) (source_view c.in-For.head.value.source) (window_view c.in-For.head.value.window)) c.requires c.index-nodes-at.is c.in-For.is refl (λ b d no. absurd no) n next there silent)

pub run_node-returns-in-TableRow-clause-silent : goal.run_node-returns-in-TableRow-clause-silent
run_node-returns-in-TableRow-clause-silent g t c n next there silent = absurd (one_loud c.args.nodes.now c.args.at c.in-TableRow.end c.args.to c.index-nodes-at.result _ (tree.tablerow (string_bytes c.in-TableRow.head.value.variable) (source_view c.in-TableRow.head.value.source) (window_view c.in-TableRow.head.value.window) (option_map expression_view c.in-TableRow.head.value.cols)) c.requires c.index-nodes-at.is c.in-TableRow.is refl (λ b no. absurd no) n next there silent)

pub run_node-returns-in-If-clause-silent : goal.run_node-returns-in-If-clause-silent
run_node-returns-in-If-clause-silent g t c n next there silent = absurd (two_loud c.args.nodes.now c.args.at c.in-If.bodies.first_end c.in-If.bodies.last_end c.args.to c.index-nodes-at.result _ (tree.if_true (condition_view c.in-If.condition)) c.requires c.index-nodes-at.is c.in-If.is refl (λ b d no. absurd no) n next there silent)

pub run_node-returns-in-Unless-clause-silent : goal.run_node-returns-in-Unless-clause-silent
run_node-returns-in-Unless-clause-silent g t c n next there silent = absurd (two_loud c.args.nodes.now c.args.at c.in-Unless.bodies.first_end c.in-Unless.bodies.last_end c.args.to c.index-nodes-at.result _ (tree.unless (condition_view c.in-Unless.condition)) c.requires c.index-nodes-at.is c.in-Unless.is refl (λ b d no. absurd no) n next there silent)

pub run_node-returns-in-Case-clause-silent : goal.run_node-returns-in-Case-clause-silent
run_node-returns-in-Case-clause-silent g t c n next there silent = absurd (case_loud c.args.nodes.now c.args.at (expression_view c.in-Case.target) c.in-Case.arms.items c.in-Case.last c.args.to c.index-nodes-at.result _ c.requires c.index-nodes-at.is c.in-Case.is refl n next there silent)

pub run_node-returns-in-Render-clause-silent : goal.run_node-returns-in-Render-clause-silent
run_node-returns-in-Render-clause-silent g t c n next there silent = absurd (leaf_loud c.args.nodes.now c.args.at c.args.to c.index-nodes-at.result _ (tree.render (expression_view c.in-Render.name) None (bindings_view c.in-Render.bindings.items)) c.requires c.index-nodes-at.is c.in-Render.is refl (λ no. absurd no) n next there silent)

pub run_node-returns-in-RenderEach-clause-silent : goal.run_node-returns-in-RenderEach-clause-silent
run_node-returns-in-RenderEach-clause-silent g t c n next there silent = absurd (leaf_loud c.args.nodes.now c.args.at c.args.to c.index-nodes-at.result _ (tree.render (expression_view c.in-RenderEach.name) (Some (each_view c.in-RenderEach.each)) (bindings_view c.in-RenderEach.bindings.items)) c.requires c.index-nodes-at.is c.in-RenderEach.is refl (λ no. absurd no) n next there silent)

pub run_node-returns-in-Comment-clause-silent : goal.run_node-returns-in-Comment-clause-silent
run_node-returns-in-Comment-clause-silent g t c n next there silent = refl

pub run_node-returns-in-Break-clause-silent : goal.run_node-returns-in-Break-clause-silent
run_node-returns-in-Break-clause-silent g t c n next there silent = refl

pub run_node-returns-in-Continue-clause-silent : goal.run_node-returns-in-Continue-clause-silent
run_node-returns-in-Continue-clause-silent g t c n next there silent = refl

pub run_range-returns-in-Err-clause-silent : goal.run_range-returns-in-Err-clause-silent
run_range-returns-in-Err-clause-silent g t c f stood are =
    absurd (false≢true (silent_done c.args.nodes.now c.args.from c.loop-at.at c.args.to (Err c.in-Err.fault) f stood are c.loop-at.invariant.silent c.loop-at-test.true c.in-Err.ensures.silent))

pub run_range-returns-then-is_some-clause-silent : goal.run_range-returns-then-is_some-clause-silent
run_range-returns-then-is_some-clause-silent g t c f stood are = inl refl

pub run_range-returns-then-is_some-2-clause-silent : goal.run_range-returns-then-is_some-2-clause-silent
run_range-returns-then-is_some-2-clause-silent g t c f stood are = inl refl

pub run_range-returns-clause-silent : goal.run_range-returns-clause-silent
run_range-returns-clause-silent g t c f stood are = inl refl

-- ---- what limits leave

pub run_range-returns-then-from-to-clause-bounded : goal.run_range-returns-then-from-to-clause-bounded
run_range-returns-then-from-to-clause-bounded g t c = c.run_no_nodes.ensures.bounded

pub run_range-returns-in_err-run_text-clause-bounded : goal.run_range-returns-in_err-run_text-clause-bounded
run_range-returns-in_err-run_text-clause-bounded g t c = less_then c.run_text.ensures.bounded c.loop-at.invariant.bounded

pub run_range-returns-then-is_some-clause-bounded : goal.run_range-returns-then-is_some-clause-bounded
run_range-returns-then-is_some-clause-bounded g t c = less_then c.run_text.ensures.bounded c.loop-at.invariant.bounded

pub run_range-returns-in_err-turns-clause-bounded : goal.run_range-returns-in_err-turns-clause-bounded
run_range-returns-in_err-turns-clause-bounded g t c = less_then c.grant_node.ensures.bounded c.loop-at.invariant.bounded

pub run_range-returns-in-Err-clause-bounded : goal.run_range-returns-in-Err-clause-bounded
run_range-returns-in-Err-clause-bounded g t c = less_then c.run_node.ensures.bounded (less_then c.grant_node.ensures.bounded c.loop-at.invariant.bounded)

pub run_range-returns-then-is_some-2-clause-bounded : goal.run_range-returns-then-is_some-2-clause-bounded
run_range-returns-then-is_some-2-clause-bounded g t c = less_then c.run_node.ensures.bounded (less_then c.grant_node.ensures.bounded c.loop-at.invariant.bounded)

pub run_range-returns-clause-bounded : goal.run_range-returns-clause-bounded
run_range-returns-clause-bounded g t c = c.loop-at.invariant.bounded

pub run_node-returns-in-Text-clause-bounded : goal.run_node-returns-in-Text-clause-bounded
run_node-returns-in-Text-clause-bounded g t c = c.run_text.ensures.bounded

pub run_node-returns-in-Output-clause-bounded : goal.run_node-returns-in-Output-clause-bounded
run_node-returns-in-Output-clause-bounded g t c = c.run_output.ensures.bounded

pub run_node-returns-in-Assign-clause-bounded : goal.run_node-returns-in-Assign-clause-bounded
run_node-returns-in-Assign-clause-bounded g t c = c.run_assign.ensures.bounded

pub run_node-returns-in-Raw-clause-bounded : goal.run_node-returns-in-Raw-clause-bounded
run_node-returns-in-Raw-clause-bounded g t c = c.run_raw.ensures.bounded

pub run_node-returns-in-Capture-clause-bounded : goal.run_node-returns-in-Capture-clause-bounded
run_node-returns-in-Capture-clause-bounded g t c = c.run_capture.ensures.bounded

pub run_node-returns-in-Include-clause-bounded : goal.run_node-returns-in-Include-clause-bounded
run_node-returns-in-Include-clause-bounded g t c = c.run_include.ensures.bounded

pub run_node-returns-in-JekyllInclude-clause-bounded : goal.run_node-returns-in-JekyllInclude-clause-bounded
run_node-returns-in-JekyllInclude-clause-bounded g t c = c.run_jekyll_include.ensures.bounded

pub run_node-returns-in-Render-clause-bounded : goal.run_node-returns-in-Render-clause-bounded
run_node-returns-in-Render-clause-bounded g t c = c.run_render.ensures.bounded

pub run_node-returns-in-RenderEach-clause-bounded : goal.run_node-returns-in-RenderEach-clause-bounded
run_node-returns-in-RenderEach-clause-bounded g t c = c.run_render_each.ensures.bounded

pub run_node-returns-in-Increment-clause-bounded : goal.run_node-returns-in-Increment-clause-bounded
run_node-returns-in-Increment-clause-bounded g t c = c.run_increment.ensures.bounded

pub run_node-returns-in-Decrement-clause-bounded : goal.run_node-returns-in-Decrement-clause-bounded
run_node-returns-in-Decrement-clause-bounded g t c = c.run_decrement.ensures.bounded

pub run_node-returns-in-Cycle-clause-bounded : goal.run_node-returns-in-Cycle-clause-bounded
run_node-returns-in-Cycle-clause-bounded g t c = c.run_cycle.ensures.bounded

pub run_node-returns-in-IfChanged-clause-bounded : goal.run_node-returns-in-IfChanged-clause-bounded
run_node-returns-in-IfChanged-clause-bounded g t c = c.run_ifchanged.ensures.bounded

pub run_node-returns-in-Filtered-clause-bounded : goal.run_node-returns-in-Filtered-clause-bounded
run_node-returns-in-Filtered-clause-bounded g t c = c.run_filtered.ensures.bounded

pub run_node-returns-in-For-clause-bounded : goal.run_node-returns-in-For-clause-bounded
run_node-returns-in-For-clause-bounded g t c = c.run_for.ensures.bounded

pub run_node-returns-in-TableRow-clause-bounded : goal.run_node-returns-in-TableRow-clause-bounded
run_node-returns-in-TableRow-clause-bounded g t c = c.run_tablerow.ensures.bounded

pub run_node-returns-in-If-clause-bounded : goal.run_node-returns-in-If-clause-bounded
run_node-returns-in-If-clause-bounded g t c = c.run_chosen.ensures.bounded

pub run_node-returns-in-Unless-clause-bounded : goal.run_node-returns-in-Unless-clause-bounded
run_node-returns-in-Unless-clause-bounded g t c = c.run_chosen-in-Unless.ensures.bounded

pub run_node-returns-in-Case-clause-bounded : goal.run_node-returns-in-Case-clause-bounded
run_node-returns-in-Case-clause-bounded g t c = c.run_chosen-in-Case.ensures.bounded

pub run_node-returns-in-Comment-clause-bounded : goal.run_node-returns-in-Comment-clause-bounded
run_node-returns-in-Comment-clause-bounded g t c = no_less

pub run_node-returns-in-Break-clause-bounded : goal.run_node-returns-in-Break-clause-bounded
run_node-returns-in-Break-clause-bounded g t c = no_less

pub run_node-returns-in-Continue-clause-bounded : goal.run_node-returns-in-Continue-clause-bounded
run_node-returns-in-Continue-clause-bounded g t c = no_less

pub run_chosen-returns-in-Err-clause-bounded : goal.run_chosen-returns-in-Err-clause-bounded
run_chosen-returns-in-Err-clause-bounded g t c = no_less

pub run_chosen-returns-in-Ok-clause-bounded : goal.run_chosen-returns-in-Ok-clause-bounded
run_chosen-returns-in-Ok-clause-bounded g t c = c.run_range.ensures.bounded

pub run_include-returns-in_err-called-clause-bounded : goal.run_include-returns-in_err-called-clause-bounded
run_include-returns-in_err-called-clause-bounded g t c = no_less

pub run_include-returns-clause-bounded : goal.run_include-returns-clause-bounded
run_include-returns-clause-bounded g t c = c.run_range-answer.ensures.bounded

pub run_jekyll_include-returns-in_err-inner-clause-bounded : goal.run_jekyll_include-returns-in_err-inner-clause-bounded
run_jekyll_include-returns-in_err-inner-clause-bounded g t c = no_less

pub run_jekyll_include-returns-clause-bounded : goal.run_jekyll_include-returns-clause-bounded
run_jekyll_include-returns-clause-bounded g t c = c.run_range-answer.ensures.bounded

pub renders::run_render-returns-in_err-called-clause-bounded : goal.renders::run_render-returns-in_err-called-clause-bounded
renders::run_render-returns-in_err-called-clause-bounded g t c = no_less

pub renders::run_render-returns-clause-bounded : goal.renders::run_render-returns-clause-bounded
renders::run_render-returns-clause-bounded g t c = c.run_range-answer.ensures.bounded

pub renders::run_item-returns-in_err-turns-clause-bounded : goal.renders::run_item-returns-in_err-turns-clause-bounded
renders::run_item-returns-in_err-turns-clause-bounded g t c = c.turns.ensures.bounded

pub renders::run_item-returns-in_err-apart-clause-bounded : goal.renders::run_item-returns-in_err-apart-clause-bounded
renders::run_item-returns-in_err-apart-clause-bounded g t c = c.turns.ensures.bounded

pub renders::run_item-returns-clause-bounded : goal.renders::run_item-returns-clause-bounded
renders::run_item-returns-clause-bounded g t c = less_then c.run_range-answer.ensures.bounded c.turns.ensures.bounded

pub renders::run_render_each-returns-in_err-called-clause-bounded : goal.renders::run_render_each-returns-in_err-called-clause-bounded
renders::run_render_each-returns-in_err-called-clause-bounded g t c = no_less

pub renders::run_render_each-returns-in_err-source-clause-bounded : goal.renders::run_render_each-returns-in_err-source-clause-bounded
renders::run_render_each-returns-in_err-source-clause-bounded g t c = no_less

pub renders::run_render_each-returns-in_err-left-clause-bounded : goal.renders::run_render_each-returns-in_err-left-clause-bounded
renders::run_render_each-returns-in_err-left-clause-bounded g t c = less_then c.run_item.ensures.bounded c.loop-at.invariant.bounded

pub renders::run_render_each-returns-then-ends_items-clause-bounded : goal.renders::run_render_each-returns-then-ends_items-clause-bounded
renders::run_render_each-returns-then-ends_items-clause-bounded g t c = less_then c.run_item.ensures.bounded c.loop-at.invariant.bounded

pub renders::run_render_each-returns-clause-bounded : goal.renders::run_render_each-returns-clause-bounded
renders::run_render_each-returns-clause-bounded g t c = c.loop-at.invariant.bounded

pub loops::run_turns-returns-in_err-run_range-clause-bounded : goal.loops::run_turns-returns-in_err-run_range-clause-bounded
loops::run_turns-returns-in_err-run_range-clause-bounded g t c = less_then c.run_range.ensures.bounded c.turns.invariant.bounded

pub loops::run_turns-returns-then-takes_break-clause-bounded : goal.loops::run_turns-returns-then-takes_break-clause-bounded
loops::run_turns-returns-then-takes_break-clause-bounded g t c = less_then c.run_range.ensures.bounded c.turns.invariant.bounded

pub loops::run_turns-returns-then-place-count-clause-bounded : goal.loops::run_turns-returns-then-place-count-clause-bounded
loops::run_turns-returns-then-place-count-clause-bounded g t c = less_then c.run_range.ensures.bounded c.turns.invariant.bounded

pub loops::run_cells-returns-in_err-open-clause-bounded : goal.loops::run_cells-returns-in_err-open-clause-bounded
loops::run_cells-returns-in_err-open-clause-bounded g t c = less_then c.open.ensures.bounded c.cells.invariant.bounded

pub loops::run_cells-returns-in_err-run_range-clause-bounded : goal.loops::run_cells-returns-in_err-run_range-clause-bounded
loops::run_cells-returns-in_err-run_range-clause-bounded g t c = less_then c.run_range.ensures.bounded (less_then c.open.ensures.bounded c.cells.invariant.bounded)

pub loops::run_cells-returns-in_err-close-clause-bounded : goal.loops::run_cells-returns-in_err-close-clause-bounded
loops::run_cells-returns-in_err-close-clause-bounded g t c = less_then c.close.ensures.bounded (less_then c.run_range.ensures.bounded (less_then c.open.ensures.bounded c.cells.invariant.bounded))

pub loops::run_cells-returns-then-place-row-clause-bounded : goal.loops::run_cells-returns-then-place-row-clause-bounded
loops::run_cells-returns-then-place-row-clause-bounded g t c = less_then c.close.ensures.bounded (less_then c.run_range.ensures.bounded (less_then c.open.ensures.bounded c.cells.invariant.bounded))

pub loops::run_for-returns-in_err-frame-clause-bounded : goal.loops::run_for-returns-in_err-frame-clause-bounded
loops::run_for-returns-in_err-frame-clause-bounded g t c = no_less

pub loops::run_for-returns-in_default-clause-bounded : goal.loops::run_for-returns-in_default-clause-bounded
loops::run_for-returns-in_default-clause-bounded g t c = c.run_range.ensures.bounded

pub loops::run_for-returns-in_err-push_frame-clause-bounded : goal.loops::run_for-returns-in_err-push_frame-clause-bounded
loops::run_for-returns-in_err-push_frame-clause-bounded g t c = no_less

pub loops::run_for-returns-clause-bounded : goal.loops::run_for-returns-clause-bounded
loops::run_for-returns-clause-bounded g t c = c.run_turns-answer.ensures.bounded

pub loops::run_tablerow-returns-in_err-frame-clause-bounded : goal.loops::run_tablerow-returns-in_err-frame-clause-bounded
loops::run_tablerow-returns-in_err-frame-clause-bounded g t c = no_less

pub loops::run_tablerow-returns-in_default-clause-bounded : goal.loops::run_tablerow-returns-in_default-clause-bounded
loops::run_tablerow-returns-in_default-clause-bounded g t c = no_less

pub loops::run_tablerow-returns-in_err-push_frame-clause-bounded : goal.loops::run_tablerow-returns-in_err-push_frame-clause-bounded
loops::run_tablerow-returns-in_err-push_frame-clause-bounded g t c = no_less

pub loops::run_tablerow-returns-clause-bounded : goal.loops::run_tablerow-returns-clause-bounded
loops::run_tablerow-returns-clause-bounded g t c = c.run_cells-answer.ensures.bounded

pub buffers::run_capture-returns-in_err-answer-clause-bounded : goal.buffers::run_capture-returns-in_err-answer-clause-bounded
buffers::run_capture-returns-in_err-answer-clause-bounded g t c = around_bounded g.W.CountedWrite.left c.args.out.now c.open-outer.new.self c.run_range-answer.new.out c.close-text.new.self c.open-outer.result c.close-text.result c.open-outer.ensures.outer c.open-outer.ensures.empty c.open-outer.ensures.writer c.close-text.ensures.text c.close-text.ensures.outer c.close-text.ensures.writer c.run_range-answer.ensures.limited c.run_range-answer.ensures.bounded

pub buffers::run_capture-returns-in_err-from_str-clause-bounded : goal.buffers::run_capture-returns-in_err-from_str-clause-bounded
buffers::run_capture-returns-in_err-from_str-clause-bounded g t c = around_bounded g.W.CountedWrite.left c.args.out.now c.open-outer.new.self c.run_range-answer.new.out c.close-text.new.self c.open-outer.result c.close-text.result c.open-outer.ensures.outer c.open-outer.ensures.empty c.open-outer.ensures.writer c.close-text.ensures.text c.close-text.ensures.outer c.close-text.ensures.writer c.run_range-answer.ensures.limited c.run_range-answer.ensures.bounded

pub buffers::run_capture-returns-clause-bounded : goal.buffers::run_capture-returns-clause-bounded
buffers::run_capture-returns-clause-bounded g t c = around_bounded g.W.CountedWrite.left c.args.out.now c.open-outer.new.self c.run_range-answer.new.out c.close-text.new.self c.open-outer.result c.close-text.result c.open-outer.ensures.outer c.open-outer.ensures.empty c.open-outer.ensures.writer c.close-text.ensures.text c.close-text.ensures.outer c.close-text.ensures.writer c.run_range-answer.ensures.limited c.run_range-answer.ensures.bounded

pub buffers::run_ifchanged-returns-in_err-ended-clause-bounded : goal.buffers::run_ifchanged-returns-in_err-ended-clause-bounded
buffers::run_ifchanged-returns-in_err-ended-clause-bounded g t c = around_bounded g.W.CountedWrite.left c.args.out.now c.open-outer.new.self c.run_range-ended.new.out c.close-text.new.self c.open-outer.result c.close-text.result c.open-outer.ensures.outer c.open-outer.ensures.empty c.open-outer.ensures.writer c.close-text.ensures.text c.close-text.ensures.outer c.close-text.ensures.writer c.run_range-ended.ensures.limited c.run_range-ended.ensures.bounded

pub buffers::run_ifchanged-returns-clause-bounded : goal.buffers::run_ifchanged-returns-clause-bounded
buffers::run_ifchanged-returns-clause-bounded g t c = less_then c.show_if_changed.ensures.bounded (around_bounded g.W.CountedWrite.left c.args.out.now c.open-outer.new.self c.run_range-ended.new.out c.close-text.new.self c.open-outer.result c.close-text.result c.open-outer.ensures.outer c.open-outer.ensures.empty c.open-outer.ensures.writer c.close-text.ensures.text c.close-text.ensures.outer c.close-text.ensures.writer c.run_range-ended.ensures.limited c.run_range-ended.ensures.bounded)

pub buffers::run_filtered-returns-in_err-ran-clause-bounded : goal.buffers::run_filtered-returns-in_err-ran-clause-bounded
buffers::run_filtered-returns-in_err-ran-clause-bounded g t c = around_bounded g.W.CountedWrite.left c.args.out.now c.open-outer.new.self c.run_range-ran.new.out c.close-text.new.self c.open-outer.result c.close-text.result c.open-outer.ensures.outer c.open-outer.ensures.empty c.open-outer.ensures.writer c.close-text.ensures.text c.close-text.ensures.outer c.close-text.ensures.writer c.run_range-ran.ensures.limited c.run_range-ran.ensures.bounded

pub buffers::run_filtered-returns-clause-bounded : goal.buffers::run_filtered-returns-clause-bounded
buffers::run_filtered-returns-clause-bounded g t c = less_then c.write_filtered.ensures.bounded (around_bounded g.W.CountedWrite.left c.args.out.now c.open-outer.new.self c.run_range-ran.new.out c.close-text.new.self c.open-outer.result c.close-text.result c.open-outer.ensures.outer c.open-outer.ensures.empty c.open-outer.ensures.writer c.close-text.ensures.text c.close-text.ensures.outer c.close-text.ensures.writer c.run_range-ran.ensures.limited c.run_range-ran.ensures.bounded)

pub buffers::run_capture-returns-in_err-answer-clause-limited : goal.buffers::run_capture-returns-in_err-answer-clause-limited
buffers::run_capture-returns-in_err-answer-clause-limited g t c = around_limited g.W.CountedWrite.left c.args.out.now c.open-outer.new.self c.run_range-answer.new.out c.close-text.new.self c.open-outer.result c.close-text.result c.open-outer.ensures.writer c.close-text.ensures.writer c.run_range-answer.ensures.limited

pub buffers::run_capture-returns-in_err-from_str-clause-limited : goal.buffers::run_capture-returns-in_err-from_str-clause-limited
buffers::run_capture-returns-in_err-from_str-clause-limited g t c = around_limited g.W.CountedWrite.left c.args.out.now c.open-outer.new.self c.run_range-answer.new.out c.close-text.new.self c.open-outer.result c.close-text.result c.open-outer.ensures.writer c.close-text.ensures.writer c.run_range-answer.ensures.limited

pub buffers::run_capture-returns-clause-limited : goal.buffers::run_capture-returns-clause-limited
buffers::run_capture-returns-clause-limited g t c = around_limited g.W.CountedWrite.left c.args.out.now c.open-outer.new.self c.run_range-answer.new.out c.close-text.new.self c.open-outer.result c.close-text.result c.open-outer.ensures.writer c.close-text.ensures.writer c.run_range-answer.ensures.limited

pub buffers::run_ifchanged-returns-in_err-ended-clause-limited : goal.buffers::run_ifchanged-returns-in_err-ended-clause-limited
buffers::run_ifchanged-returns-in_err-ended-clause-limited g t c = around_limited g.W.CountedWrite.left c.args.out.now c.open-outer.new.self c.run_range-ended.new.out c.close-text.new.self c.open-outer.result c.close-text.result c.open-outer.ensures.writer c.close-text.ensures.writer c.run_range-ended.ensures.limited

pub buffers::run_ifchanged-returns-clause-limited : goal.buffers::run_ifchanged-returns-clause-limited
buffers::run_ifchanged-returns-clause-limited g t c = c.show_if_changed.ensures.limited ∙ around_limited g.W.CountedWrite.left c.args.out.now c.open-outer.new.self c.run_range-ended.new.out c.close-text.new.self c.open-outer.result c.close-text.result c.open-outer.ensures.writer c.close-text.ensures.writer c.run_range-ended.ensures.limited

pub buffers::run_filtered-returns-in_err-ran-clause-limited : goal.buffers::run_filtered-returns-in_err-ran-clause-limited
buffers::run_filtered-returns-in_err-ran-clause-limited g t c = around_limited g.W.CountedWrite.left c.args.out.now c.open-outer.new.self c.run_range-ran.new.out c.close-text.new.self c.open-outer.result c.close-text.result c.open-outer.ensures.writer c.close-text.ensures.writer c.run_range-ran.ensures.limited

pub buffers::run_filtered-returns-clause-limited : goal.buffers::run_filtered-returns-clause-limited
buffers::run_filtered-returns-clause-limited g t c = c.write_filtered.ensures.limited ∙ around_limited g.W.CountedWrite.left c.args.out.now c.open-outer.new.self c.run_range-ran.new.out c.close-text.new.self c.open-outer.result c.close-text.result c.open-outer.ensures.writer c.close-text.ensures.writer c.run_range-ran.ensures.limited
