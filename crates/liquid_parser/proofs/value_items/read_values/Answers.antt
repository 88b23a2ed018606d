use Rattle.std.proofs.Common.{List, Option, map, sym, subst}
use Rattle.liquid_core.specs.Expression.{Expression}
use Rattle.liquid_core.specs.ExpressionView.{expression_view}
use Rattle.liquid_lexer.specs.Readers.{Parses}
use Rattle.liquid_lexer.specs.Tokens.{tokens_view}
use Rattle.liquid_parser.proofs.ItemLaws.{values_begin}
use Rattle.liquid_parser.proofs.value_items.read_values.Goals as goal

pub returns-clause-values : goal.returns-clause-values
returns-clause-values c =
    let begun = values_begin c.args.separators (tokens_view c.args.items.items) (expression_view c.in-Some.first) (tokens_view c.next_value.new.items.items) (sym c.in-Some.ensures.value) in
    subst (λ (o : Option (List Expression)). Parses (λ xs. map expression_view xs.items) c.read_further.result o) (sym begun) c.read_further.ensures.values
