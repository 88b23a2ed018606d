use Rattle.std.proofs.Common.{rules, arith, ◌≡◌, ◌+◌, ◌-◌, ◌^◌, ◌≤◌, ◌∙◌, None, length, map, refl, sym, ap, string_bytes}
use Rattle.std.proofs.lemmas.List.{length-map}
use Rattle.liquid_core.specs.ExpressionView.{expression_view}
use Rattle.liquid_evaluation.specs.ChainView.{chain_filter_view, chain_view}
use Rattle.liquid_evaluation.specs.ConditionView.{condition_view}
use Rattle.liquid_evaluation.specs.Tree as tree
use Rattle.liquid_syntax.specs.Flats.{arm_values, binding_view, bindings_view, nodes_of}
use Rattle.liquid_engine.specs.inside.NodeTurns.{comparisons, counted_turns, elsif_comparisons, listed_values}
use Rattle.liquid_engine.proofs.Going.{two}
use Rattle.liquid_engine.proofs.NodeTurns.{counted_small, turns_case, turns_leaf, turns_one, turns_two}
use Rattle.liquid_engine.proofs.node_turns.turns_at.Goals as goal

pub returns-in-Output : goal.returns-in-Output
returns-in-Output c n next there =
    let fits : c.len.result ≤ 2 ^ 64 - 1 = search rules in
    let count : c.len.result ≡ length (c.in-Output.chain.filters.items) = search rules in
    turns_leaf c.args.nodes.now c.args.at c.args.to c.index-nodes-at.result _ (tree.output (chain_view c.in-Output.chain)) _ c.requires c.index-nodes-at.is c.in-Output.is refl
    (c.one_and.ensures (length (map chain_filter_view (c.in-Output.chain.filters.items))) (counted_small c.len.result fits ∙ ap counted_turns (count ∙ sym (length-map (c.in-Output.chain.filters.items) chain_filter_view)))) n next there

pub returns-in-Assign : goal.returns-in-Assign
returns-in-Assign c n next there =
    let fits : c.len-in-Assign.result ≤ 2 ^ 64 - 1 = search rules in
    let count : c.len-in-Assign.result ≡ length (c.in-Assign.chain.filters.items) = search rules in
    turns_leaf c.args.nodes.now c.args.at c.args.to c.index-nodes-at.result _ (tree.assign (string_bytes c.in-Assign.field-0) (chain_view c.in-Assign.chain)) _ c.requires c.index-nodes-at.is c.in-Assign.is refl
    (c.one_and-in-Assign.ensures (length (map chain_filter_view (c.in-Assign.chain.filters.items))) (counted_small c.len-in-Assign.result fits ∙ ap counted_turns (count ∙ sym (length-map (c.in-Assign.chain.filters.items) chain_filter_view)))) n next there

pub returns-in-Filtered : goal.returns-in-Filtered
returns-in-Filtered c n next there =
    let fits : c.len-in-Filtered.result ≤ 2 ^ 64 - 1 = search rules in
    let count : c.len-in-Filtered.result ≡ length (c.in-Filtered.filters.items) = search rules in
    turns_one c.args.nodes.now c.args.at _ c.args.to c.index-nodes-at.result _ (tree.filtered (map chain_filter_view (c.in-Filtered.filters.items))) _ c.requires c.index-nodes-at.is c.in-Filtered.is refl
    (λ b. c.one_and-in-Filtered.ensures (length (map chain_filter_view (c.in-Filtered.filters.items))) (counted_small c.len-in-Filtered.result fits ∙ ap counted_turns (count ∙ sym (length-map (c.in-Filtered.filters.items) chain_filter_view)))) n next there

pub returns-in-Include : goal.returns-in-Include
returns-in-Include c n next there =
    let fits : c.len-in-Include.result ≤ 2 ^ 64 - 1 = search rules in
    let count : c.len-in-Include.result ≡ length (c.in-Include.bindings.items) = search rules in
    turns_leaf c.args.nodes.now c.args.at c.args.to c.index-nodes-at.result _ (tree.include (expression_view c.in-Include.field-0) (bindings_view c.in-Include.bindings.items)) _ c.requires c.index-nodes-at.is c.in-Include.is refl
    (c.one_and-in-Include.ensures (length (map binding_view (c.in-Include.bindings.items))) (counted_small c.len-in-Include.result fits ∙ ap counted_turns (count ∙ sym (length-map (c.in-Include.bindings.items) binding_view)))) n next there

pub returns-in-JekyllInclude : goal.returns-in-JekyllInclude
returns-in-JekyllInclude c n next there =
    let fits : c.len-in-JekyllInclude.result ≤ 2 ^ 64 - 1 = search rules in
    let count : c.len-in-JekyllInclude.result ≡ length (c.in-JekyllInclude.bindings.items) = search rules in
    turns_leaf c.args.nodes.now c.args.at c.args.to c.index-nodes-at.result _ (tree.jekyll_include (string_bytes c.in-JekyllInclude.field-0) (bindings_view c.in-JekyllInclude.bindings.items)) _ c.requires c.index-nodes-at.is c.in-JekyllInclude.is refl
    (c.one_and-in-JekyllInclude.ensures (length (map binding_view (c.in-JekyllInclude.bindings.items))) (counted_small c.len-in-JekyllInclude.result fits ∙ ap counted_turns (count ∙ sym (length-map (c.in-JekyllInclude.bindings.items) binding_view)))) n next there

pub returns-in-Render : goal.returns-in-Render
returns-in-Render c n next there =
    let fits : c.len-in-Render.result ≤ 2 ^ 64 - 1 = search rules in
    let count : c.len-in-Render.result ≡ length (c.in-Render.bindings.items) = search rules in
    turns_leaf c.args.nodes.now c.args.at c.args.to c.index-nodes-at.result _ (tree.render (expression_view c.in-Render.field-0) None (bindings_view c.in-Render.bindings.items)) _ c.requires c.index-nodes-at.is c.in-Render.is refl
    (c.one_and-in-Render.ensures (length (map binding_view (c.in-Render.bindings.items))) (counted_small c.len-in-Render.result fits ∙ ap counted_turns (count ∙ sym (length-map (c.in-Render.bindings.items) binding_view)))) n next there

pub comparisons_of_elsifs-others-requires : goal.comparisons_of_elsifs-others-requires
comparisons_of_elsifs-others-requires c =
    let ranges = two c.args.nodes.now c.args.at c.in-If.bodies.first_end c.in-If.bodies.last_end c.args.to c.index-nodes-at.result _ (tree.if_true (condition_view c.in-If.condition)) c.requires c.index-nodes-at.is c.in-If.is refl in
    ranges.1

pub returns-in-If : goal.returns-in-If
returns-in-If c n next there =
    turns_two c.args.nodes.now c.args.at c.in-If.bodies.first_end c.in-If.bodies.last_end c.args.to c.index-nodes-at.result _ (tree.if_true (condition_view c.in-If.condition)) _ c.requires c.index-nodes-at.is c.in-If.is refl
    (λ b d after. c.one_and-in-If.ensures (comparisons (condition_view c.in-If.condition) + elsif_comparisons (nodes_of d)) (c.added.ensures (comparisons (condition_view c.in-If.condition)) (elsif_comparisons (nodes_of d)) c.comparisons_of.ensures (c.comparisons_of_elsifs-others.ensures d after))) n next there

pub returns-in-Unless : goal.returns-in-Unless
returns-in-Unless c n next there =
    turns_two c.args.nodes.now c.args.at c.in-Unless.field-1.first_end c.in-Unless.field-1.last_end c.args.to c.index-nodes-at.result _ (tree.unless (condition_view c.in-Unless.condition)) _ c.requires c.index-nodes-at.is c.in-Unless.is refl
    (λ b d after. c.one_and-in-Unless.ensures (comparisons (condition_view c.in-Unless.condition)) c.comparisons_of-in-Unless.ensures) n next there

pub returns-in-Case : goal.returns-in-Case
returns-in-Case c n next there =
    let count = c.one_and-in-Case.ensures (listed_values (arm_values c.deref.result.now)) c.values_of.ensures in
    turns_case c.args.nodes.now c.args.at (expression_view c.in-Case.field-0) c.in-Case.arms.items c.in-Case.field-2 c.args.to c.index-nodes-at.result _ _ c.requires c.index-nodes-at.is c.in-Case.is refl
    (count ∙ ap (λ x. counted_turns (1 + listed_values (arm_values x))) c.deref.ensures.value) n next there

pub returns-in-For : goal.returns-in-For
returns-in-For c n next there =
    turns_two c.args.nodes.now c.args.at _ _ c.args.to c.index-nodes-at.result _ _ _ c.requires c.index-nodes-at.is c.in-For.is refl (λ b d after. refl) n next there

pub returns-in-TableRow : goal.returns-in-TableRow
returns-in-TableRow c n next there =
    turns_one c.args.nodes.now c.args.at _ c.args.to c.index-nodes-at.result _ _ _ c.requires c.index-nodes-at.is c.in-TableRow.is refl (λ b. refl) n next there

pub returns-in-RenderEach : goal.returns-in-RenderEach
returns-in-RenderEach c n next there =
    turns_leaf c.args.nodes.now c.args.at c.args.to c.index-nodes-at.result _ _ _ c.requires c.index-nodes-at.is c.in-RenderEach.is refl refl n next there
