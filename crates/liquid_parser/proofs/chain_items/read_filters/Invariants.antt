use Rattle.std.proofs.Common.{length, ◌≡◌, map}
use Rattle.liquid_lexer.specs.Tokens.{tokens_view}
use Rattle.liquid_evaluation.specs.ChainView.{chain_filter_view}
use Rattle.liquid_language.specs.Registered.{registered_in}
use Rattle.liquid_parser.specs.ChainReading.{filters_of}
use Rattle.liquid_parser.proofs.ChainCalls.{filters_after}
use Rattle.liquid_parser.proofs.chain_items.read_filters.Given as goal

-- what is left gives, after what was read, what the whole gives
abbrev pub invariant-filters : goal.invariant-filters
invariant-filters l =
    filters_of (registered_in l.known) (tokens_view l.initial.items.items) ≡ filters_after (registered_in l.known) (map chain_filter_view l.filters.items) (filters_of (registered_in l.known) (tokens_view l.items.items))

abbrev pub decreases-filters : goal.decreases-filters
decreases-filters l = length l.items.items
