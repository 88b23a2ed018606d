use Rattle.std.proofs.Common.{sym, ap, ◌∙◌, map}
use Rattle.std.proofs.lemmas.List.{map-append}
use Rattle.std.proofs.lemmas.Result.{err_from_is_err_and}
use Rattle.liquid_lexer.specs.Tokens.{tokens_view}
use Rattle.liquid_evaluation.specs.ChainView.{chain_filter_view}
use Rattle.liquid_language.specs.Registered.{registered_in}
use Rattle.liquid_parser.specs.ChainReading.{filters_of}
use Rattle.liquid_parser.proofs.ChainCalls.{left_over, none_left, filters_after, filters_nothing, no_filter, no_bar, filter_refused, one_filter, faulted}
use Rattle.liquid_parser.proofs.chain_items.read_filters.Goals as goal

pub filters-init : goal.filters-init
filters-init c =
    let known = registered_in c.args.known.now in
    filters_nothing known _ ∙ ap (λ fs. filters_after known (map chain_filter_view fs) (filters_of known (tokens_view c.args.items.now.items))) (sym c.new-filters.ensures.items)

pub returns-clause-filters : goal.returns-clause-filters
returns-clause-filters c = c.filters.invariant ∙ no_filter (registered_in c.args.known.now) (map chain_filter_view c.filters.filters.items) _ (none_left c.filters.items.items (sym c.is_over.ensures ∙ c.filters-test.false))

pub returns-then-not-skip-clause-filters : goal.returns-then-not-skip-clause-filters
returns-then-not-skip-clause-filters c =
    let some = left_over c.filters.items.items (sym c.is_over.ensures ∙ c.filters-test.true) in
    faulted c.expected.result _ (c.filters.invariant ∙ no_bar (registered_in c.args.known.now) (map chain_filter_view c.filters.filters.items) (tokens_view c.filters.items.items) some c.if-not-skip.ensures.0)

pub returns-in_err-read_filter-clause-filters : goal.returns-in_err-read_filter-clause-filters
returns-in_err-read_filter-clause-filters c =
    let some = left_over c.filters.items.items (sym c.is_over.ensures ∙ c.filters-test.true) in
    let p = err_from_is_err_and c.from_residual.result c.from_residual.ensures.1 in
    rw (p.1, p.2) (filter_refused (registered_in c.args.known.now) (map chain_filter_view c.filters.filters.items) (tokens_view c.filters.items.items) _ some c.if-not-skip.ensures.0 c.in_err-read_filter.field-0.0 _ c.filters.invariant c.in_err-read_filter.ensures.taken)

pub filters-preserved : goal.filters-preserved
filters-preserved c =
    let known = registered_in c.args.known.now in
    let some = left_over c.filters.items.items (sym c.is_over.ensures ∙ c.filters-test.true) in
    let left = tokens_view c.read_filter.new.items.items in
    c.filters.invariant
    ∙ one_filter known (map chain_filter_view c.filters.filters.items) (tokens_view c.filters.items.items) _ some c.if-not-skip.ensures.0 (chain_filter_view c.in_ok-read_filter.field-0) left c.in_ok-read_filter.ensures.taken
    ∙ ap (λ fs. filters_after known fs (filters_of known left)) (sym (ap (map chain_filter_view) c.in_ok-push_first.ensures.items ∙ map-append _ _ _))
