use Rattle.std.proofs.Common.{[], ◌∷◌, ◌++◌, sym, ap, ◌∙◌, arith, map}
use Rattle.std.proofs.lemmas.List.{map-append}
use Rattle.std.specs.Option.{option_map}
use Rattle.liquid_core.specs.ExpressionView.{expression_view}
use Rattle.liquid_lexer.specs.Tokens.{tokens_view}
use Rattle.liquid_parser.specs.ChainReading.{arguments_of, filters_of}
use Rattle.liquid_parser.proofs.ChainCalls.{with_front, after_nothing, not_colon, colon, one_argument_more, last_argument, no_value, faulted}
use Rattle.liquid_parser.proofs.chain_items.read_arguments.Goals as goal

pub arguments-init : goal.arguments-init
arguments-init c = record {
  called = λ known. after_nothing _ ∙ ap (λ xs. with_front (map expression_view xs) (arguments_of known (tokens_view c.skip.new.items.items))) (sym c.in_ok-arguments.ensures.items);
  shorter = omega arith;
}

pub returns-then-not-skip-clause-called : goal.returns-then-not-skip-clause-called
returns-then-not-skip-clause-called c known =
    let e = c.if-not-skip.ensures in
    not_colon known _ e.0
    ∙ ap (λ is. option_map (λ calls. ([], calls)) (filters_of known (tokens_view is))) (sym e.1)
    ∙ ap (λ xs. option_map (λ calls. (map expression_view xs, calls)) (filters_of known (tokens_view c.skip.new.items.items))) (sym c.new.ensures.items)

pub returns-in_default-clause-called : goal.returns-in_default-clause-called
returns-in_default-clause-called c known =
    faulted c.expected.result _ (
    colon known _ _ c.if-not-skip.ensures.0 ∙ c.arguments.invariant.called known ∙ no_value known (map expression_view c.arguments.arguments.items) _ (sym c.in_default.ensures.value))

pub returns-then-not-skip-2-clause-called : goal.returns-then-not-skip-2-clause-called
returns-then-not-skip-2-clause-called c known =
    let e = c.if-not-skip-2.ensures in
    let pushed = c.in_ok-push.ensures.items in
    colon known _ _ c.if-not-skip.ensures.0 ∙ c.arguments.invariant.called known ∙ last_argument known (map expression_view c.arguments.arguments.items) _ _ _ (sym c.in-Some.ensures.value) e.0
    ∙ ap (λ is. option_map (λ calls. (map expression_view c.arguments.arguments.items ++ (expression_view c.in-Some.argument ∷ []), calls)) (filters_of known (tokens_view is))) (sym e.1)
    ∙ ap (λ xs. option_map (λ calls. (xs, calls)) (filters_of known (tokens_view c.skip-in-arguments.new.items.items))) (sym (ap (map expression_view) pushed ∙ map-append _ _ _))

pub arguments-preserved : goal.arguments-preserved
arguments-preserved c =
    let pushed = c.in_ok-push.ensures.items in
    record {
      called = λ known. c.arguments.invariant.called known ∙ one_argument_more known (map expression_view c.arguments.arguments.items) _ _ _ _ (sym c.in-Some.ensures.value) c.if-not-skip-2.ensures.0
          ∙ ap (λ xs. with_front xs (arguments_of known (tokens_view c.skip-in-arguments.new.items.items))) (sym (ap (map expression_view) pushed ∙ map-append _ _ _));
      shorter = omega (arith, c.arguments.invariant.shorter, c.if-not-skip-2.ensures.1, c.in-Some.ensures.shorter);
    }
