use Rattle.std.proofs.Common.{length, ◌≡◌, ◌≤◌, map}
use Rattle.liquid_core.specs.ExpressionView.{expression_view}
use Rattle.liquid_lexer.specs.Tokens.{tokens_view}
use Rattle.liquid_parser.specs.Chains.{Filters}
use Rattle.liquid_parser.specs.ChainReading.{arguments_of}
use Rattle.liquid_parser.proofs.ChainCalls.{with_front}
use Rattle.liquid_parser.proofs.chain_items.read_arguments.Given as goal

abbrev pub invariant-arguments : goal.invariant-arguments
invariant-arguments l = record {
  called : (known : Filters) → arguments_of known (tokens_view l.initial.items.items) ≡ with_front (map expression_view l.arguments.items) (arguments_of known (tokens_view l.items.items));
  shorter : length l.items.items ≤ length l.initial.items.items;
}

abbrev pub decreases-arguments : goal.decreases-arguments
decreases-arguments l = length l.items.items
