use Rattle.std.proofs.Common.{sym, ap, ◌∙◌, refl, Option}
use Rattle.std.specs.Option.{option_map}
use Rattle.liquid_core.specs.Expression.{Expression}
use Rattle.liquid_core.specs.ExpressionView.{expression_view}
use Rattle.liquid_lexer.specs.Tokens.{tokens_view}
use Rattle.liquid_evaluation.specs.Tree.{case_of}
use Rattle.liquid_syntax.specs.Flats.{arm_ends, arm_values, case_flat}
use Rattle.liquid_parser.specs.Classification.{many_or}
use Rattle.liquid_language.specs.declared.block.Block.TheVariants as blocks
use Rattle.liquid_parser.proofs.Alone.{value_done, value_more, case_faulted}
use Rattle.liquid_parser.proofs.ItemLaws.{nothing_seen}
use Rattle.liquid_parser.proofs.classify.blocks.read_case.Goals as goal

pub returns-then-is_over-clause-node : goal.returns-then-is_over-clause-node
returns-then-is_over-clause-node c =
    let left = c.next_value.new.items.items in
    let t = expression_view c.in-Some.target in
    let read = value_done (tokens_view c.args.items.items) t (tokens_view left) c.in-Some.ensures.value (nothing_seen left _ (sym c.is_over.ensures ∙ c.if-is_over.true)) in
    (ap (λ (o : Option Expression). many_or blocks.Case (option_map (λ x ws o. case_of x ws o) o)) read, (t, 0, ap (λ arms. case_flat t (arm_values arms) (arm_ends arms) 0) c.new.ensures.items, λ ws o. refl))

pub returns-clause-node : goal.returns-clause-node
returns-clause-node c =
    let left = c.next_value.new.items.items in
    case_faulted c.expected_before-2.result (tokens_view c.args.items.items) c.expected_before-2.ensures.kind
    (value_more (tokens_view c.args.items.items) (expression_view c.in-Some.target) (tokens_view left) c.in-Some.ensures.value (nothing_seen left _ (sym c.is_over.ensures ∙ c.if-is_over.false)))
