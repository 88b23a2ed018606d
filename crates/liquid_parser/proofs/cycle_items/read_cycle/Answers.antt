use Rattle.std.proofs.Common.{map, ap, ◌∙◌, string_bytes}
use Rattle.liquid_core.specs.ExpressionView.{expression_view}
use Rattle.liquid_lexer.specs.Tokens.{tokens_view}
use Rattle.liquid_evaluation.specs.Groups.{values_group}
use Rattle.liquid_parser.proofs.CycleLaws.{unnamed_read}
use Rattle.liquid_parser.proofs.cycle_items.read_cycle.Goals as goal

pub returns-clause-cycle : goal.returns-clause-cycle
returns-clause-cycle c =
    unnamed_read (tokens_view c.args.items.items) (expression_view c.in-Some.first) (tokens_view c.next_value.new.items.items) (tokens_view c.skip.new.items.items) (map expression_view c.in_ok-values.values.items) (string_bytes c.in_ok-group.group)
    c.in-Some.ensures.value c.if-skip.ensures.0 (ap tokens_view c.if-skip.ensures.1) c.in_ok-values.ensures.values (c.in_ok-group.ensures ∙ ap (λ xs. values_group (map expression_view xs)) c.deref.ensures.value)
