use Rattle.std.proofs.Common.{length, ◌≡◌, ◌++◌}
use Rattle.std.specs.Option.{option_map}
use Rattle.liquid_lexer.specs.Tokens.{tokens_view}
use Rattle.liquid_parser.specs.Bound.{bound_pairs}
use Rattle.liquid_syntax.specs.Flats.{bindings_view}
use Rattle.liquid_parser.proofs.Repetition.{after_those}
use Rattle.liquid_parser.proofs.pair_items.read_pairs.Given as goal

-- what is left gives, after the pairs that were read, what the whole gives after the first ones
abbrev pub invariant-pairs : goal.invariant-pairs
invariant-pairs l =
    option_map (λ ps. bindings_view l.fn.first.items ++ ps) (bound_pairs l.style (tokens_view l.fn.items.items)) ≡ after_those (bindings_view l.pairs.items) (bound_pairs l.style (tokens_view l.items.items))

abbrev pub decreases-pairs : goal.decreases-pairs
decreases-pairs l = length l.items.items
