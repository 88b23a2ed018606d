use Rattle.std.proofs.Common.{length, ◌≡◌, map}
use Rattle.liquid_parser.specs.ConditionReading.{condition_of}
use Rattle.liquid_evaluation.specs.ConditionView.{atoms_view}
use Rattle.liquid_lexer.specs.Tokens.{tokens_view}
use Rattle.liquid_parser.proofs.ConditionTurns.{conjunctions_then}
use Rattle.liquid_parser.proofs.condition_items.read_condition.Given as goal

-- what is left gives, after the conjunctions that were read, what the whole gives
abbrev pub invariant-conjunctions : goal.invariant-conjunctions
invariant-conjunctions l =
    condition_of (tokens_view l.initial.items.items) ≡ conjunctions_then (map atoms_view l.conjunctions.items) (condition_of (tokens_view l.items.items))

abbrev pub decreases-conjunctions : goal.decreases-conjunctions
decreases-conjunctions l = length l.items.items
