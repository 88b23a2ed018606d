use Rattle.std.proofs.Common.{sym, map, string_bytes}
use Rattle.std.proofs.lemmas.Result.{err_from_is_err_and}
use Rattle.liquid_core.specs.ExpressionView.{expression_view}
use Rattle.liquid_lexer.specs.Tokens.{tokens_view}
use Rattle.liquid_language.specs.Registered.{registered_in}
use Rattle.liquid_parser.proofs.ChainCalls.{no_name, call_refused, call_taken, faulted}
use Rattle.liquid_parser.proofs.chain_items.read_filter.Goals as goal

pub returns-in_default-clause-taken : goal.returns-in_default-clause-taken
returns-in_default-clause-taken c = faulted c.expected.result _ (no_name (registered_in c.args.known.now) (tokens_view c.args.items.now.items) (sym c.in_default.ensures.value))

pub returns-in_err-arguments-clause-taken : goal.returns-in_err-arguments-clause-taken
returns-in_err-arguments-clause-taken c =
    let known = registered_in c.args.known.now in
    let p = err_from_is_err_and c.from_residual.result c.from_residual.ensures.1 in
    rw (p.1, p.2) (call_refused known (tokens_view c.args.items.now.items) _ _ (sym c.in-Some.ensures.value) c.in_err-arguments.field-0.0 (c.in_err-arguments.ensures.called known))

pub returns-clause-taken : goal.returns-clause-taken
returns-clause-taken c =
    let known = registered_in c.args.known.now in
    let left = tokens_view c.read_arguments.new.items.items in
    call_taken known (tokens_view c.args.items.now.items) (string_bytes c.in-Some.name) _ (sym c.in-Some.ensures.value) (map expression_view c.in_ok-arguments.arguments.items) left c.accepted.result (c.in_ok-arguments.ensures.called known) c.accepted.ensures.call
