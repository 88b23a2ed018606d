use Rattle.std.proofs.Common.{◌≡◌, sym, subst}
use Rattle.liquid_core.specs.ExpressionView.{expression_view}
use Rattle.liquid_parser.specs.ConditionReading.{condition_of, after_atom}
use Rattle.liquid_lexer.specs.Tokens.{tokens_view}
use Rattle.liquid_evaluation.specs.Tree.{bare}
use Rattle.liquid_parser.proofs.ChainCalls.{faulted}
use Rattle.liquid_parser.proofs.ConditionTurns.{no_left, bare_atom, no_right, comparison_atom}
use Rattle.liquid_parser.proofs.condition_items.read_atom.Goals as goal

pub returns-in_default-clause-taken : goal.returns-in_default-clause-taken
returns-in_default-clause-taken c = faulted c.expected.result _ (no_left (tokens_view c.args.items.now.items) (sym c.in_default.ensures.value))

pub returns-in_default-next_operator-clause-taken : goal.returns-in_default-next_operator-clause-taken
returns-in_default-next_operator-clause-taken c =
    let e = c.in_default-next_operator.ensures in
    let all = tokens_view c.args.items.now.items in
    let x = expression_view c.in-Some.left in
    subst (λ is. condition_of all ≡ after_atom (tokens_view is) (bare x)) (sym e.1) (bare_atom all (tokens_view c.next_value.new.items.items) x (sym c.in-Some.ensures.value) e.0)

pub returns-in_default-next_value-clause-taken : goal.returns-in_default-next_value-clause-taken
returns-in_default-next_value-clause-taken c =
    let e = c.in-Some-next_operator.ensures in
    faulted c.expected-in_default-next_value.result _ (
    no_right (tokens_view c.args.items.now.items) (tokens_view c.next_value.new.items.items) (expression_view c.in-Some.left) (sym c.in-Some.ensures.value) (tokens_view c.next_operator.new.items.items) c.in-Some-next_operator.operator e.0
    (sym c.in_default-next_value.ensures.value))

pub returns-clause-taken : goal.returns-clause-taken
returns-clause-taken c =
    let e = c.in-Some-next_operator.ensures in
    comparison_atom (tokens_view c.args.items.now.items) (tokens_view c.next_value.new.items.items) (expression_view c.in-Some.left) (sym c.in-Some.ensures.value) (tokens_view c.next_operator.new.items.items) c.in-Some-next_operator.operator e.0
    (expression_view c.in-Some-next_value.right) (tokens_view c.next_value-2.new.items.items) (sym c.in-Some-next_value.ensures.value)
