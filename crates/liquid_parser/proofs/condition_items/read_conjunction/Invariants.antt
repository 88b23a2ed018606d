use Rattle.std.proofs.Common.{length, ◌≡◌, ◌≤◌, map}
use Rattle.liquid_parser.specs.ConditionReading.{condition_of}
use Rattle.liquid_evaluation.specs.ConditionView.{atom_view}
use Rattle.liquid_lexer.specs.Tokens.{tokens_view}
use Rattle.liquid_parser.proofs.ConditionTurns.{atoms_then}
use Rattle.liquid_parser.proofs.condition_items.read_conjunction.Given as goal

-- what is left gives, after the atoms that were read, what the whole gives
abbrev pub invariant-atoms : goal.invariant-atoms
invariant-atoms l = record {
  taken : condition_of (tokens_view l.initial.items.items) ≡ atoms_then (map atom_view l.atoms.items) (condition_of (tokens_view l.items.items));
  shorter : length l.items.items ≤ length l.initial.items.items;
}

abbrev pub decreases-atoms : goal.decreases-atoms
decreases-atoms l = length l.items.items
