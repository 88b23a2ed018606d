use Rattle.std.proofs.Common.{length, ◌≡◌, ◌∷◌, map}
use Rattle.std.specs.Option.{option_map}
use Rattle.liquid_core.specs.ExpressionView.{expression_view}
use Rattle.liquid_lexer.specs.Tokens.{tokens_view}
use Rattle.liquid_parser.specs.ValueLists.{further_of}
use Rattle.liquid_parser.proofs.Repetition.{after_those}
use Rattle.liquid_parser.proofs.value_items.read_further.Given as goal

-- what is left gives, after the values that were read, what the whole gives
abbrev pub invariant-values : goal.invariant-values
invariant-values l =
    option_map (λ xs. expression_view l.fn.first ∷ xs) (further_of l.separators (tokens_view l.fn.items.items)) ≡ after_those (map expression_view l.values.items) (further_of l.separators (tokens_view l.items.items))

abbrev pub decreases-values : goal.decreases-values
decreases-values l = length l.items.items
