use Rattle.std.proofs.Common.{[], ◌∷◌, ◌++◌, map, sym, ap, ◌∙◌, Some}
use Rattle.std.proofs.lemmas.List.{map-append, append-nil}
use Rattle.liquid_core.specs.ExpressionView.{expression_view}
use Rattle.liquid_lexer.specs.Tokens.{tokens_view}
use Rattle.liquid_parser.specs.ValueLists.{ends_values, further_first, further_of}
use Rattle.liquid_parser.proofs.ChainCalls.{faulted}
use Rattle.liquid_parser.proofs.ItemLaws.{further_begin, further_shorter}
use Rattle.liquid_parser.proofs.Repetition.{after_those, last_loop, more_loop, stuck_loop}
use Rattle.liquid_parser.proofs.value_items.read_further.Goals as goal

pub values-init : goal.values-init
values-init c =
    let left = further_of c.args.separators (tokens_view c.args.items.items) in
    further_begin (expression_view c.args.first) left
    ∙ ap (λ xs. after_those xs left) (sym (ap (map expression_view) (c.in_ok-push.ensures.items ∙ ap (λ l. l ++ c.args.first ∷ []) c.in_ok-values.ensures.items)))

pub returns-in_default-clause-values : goal.returns-in_default-clause-values
returns-in_default-clause-values c =
    let s = c.args.separators in
    let l = c.values in
    faulted c.expected_before.result _ (
    l.invariant ∙ stuck_loop (further_first s) (ends_values s) (further_shorter s) (map expression_view l.values.items) (tokens_view l.items.items) (sym c.ends_values.ensures ∙ c.values-test.true) (sym c.in_default.ensures.value))

pub values-preserved : goal.values-preserved
values-preserved c =
    let s = c.args.separators in
    let l = c.values in
    let left = tokens_view c.next_further.new.items.items in
    l.invariant
    ∙ more_loop (further_first s) (ends_values s) (further_shorter s) (map expression_view l.values.items) (tokens_view l.items.items) (expression_view c.in-Some.value) left (sym c.ends_values.ensures ∙ c.values-test.true) (sym c.in-Some.ensures.value)
    ∙ ap (λ xs. after_those xs (further_of s left)) (sym (ap (map expression_view) c.in_ok-push-2.ensures.items ∙ map-append _ _ _))

pub returns-clause-values : goal.returns-clause-values
returns-clause-values c =
    let s = c.args.separators in
    let l = c.values in
    l.invariant
    ∙ last_loop (further_first s) (ends_values s) (further_shorter s) (map expression_view l.values.items) (tokens_view l.items.items) (sym c.ends_values.ensures ∙ c.values-test.false)
    ∙ ap Some (append-nil (map expression_view l.values.items))
