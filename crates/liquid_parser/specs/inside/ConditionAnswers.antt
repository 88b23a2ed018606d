-- What reading the parts of a condition answers.
use Rattle.std.specs.Prelude.{◌≡◌, ◌<◌, List, [], ◌∷◌, length, Option, Some, None, Result, Ok, Err}
use Rattle.std.specs.Prelude.{Vec}
use Rattle.std.specs.Option.{option_map}
use Rattle.std.specs.declared.alloc.Global.{Global}
use Rattle.liquid_parser.specs.ConditionReading.{operator_of, condition_of, after_atom}
use Rattle.liquid_parser.specs.ConditionReading.{alternatives_of}
use Rattle.liquid_evaluation.specs.ConditionView.{atom_view, atoms_view}
use Rattle.liquid_lexer.specs.Readers.{Fails}
use Rattle.liquid_lexer.specs.Tokens.{Token, tokens_view}
use Rattle.liquid_evaluation.specs.Tree as tree
use Rattle.liquid_evaluation.specs.declared.comparison.ComparisonOperator.{ComparisonOperator}
use Rattle.liquid_evaluation.specs.declared.condition.Atom.{Atom}
use Rattle.liquid_lexer.specs.declared.fault.ParseError.{ParseError}
use Rattle.liquid_lexer.specs.declared.item.Item.{Item}

abbrev pub operator_before : List Token → Option ComparisonOperator →
    Option (ComparisonOperator × List Token)
operator_before ts o = option_map (λ operator. (operator, ts)) o

-- the operator at the front, and what follows it
abbrev pub operator_first : List Token → Option (ComparisonOperator × List Token)
operator_first [] = None
operator_first (t ∷ ts) = operator_before ts (operator_of t)

-- the operator that was taken off the front, if one stood there
abbrev pub TakesOperator : List Item → List Item → Option ComparisonOperator → Type 0
TakesOperator old new None = (operator_first (tokens_view old) ≡ None) × (new ≡ old)
TakesOperator old new (Some operator) =
    (operator_first (tokens_view old) ≡ Some (operator, tokens_view new)) ×
    (length new < length old)

-- the atom at the front: a condition reads as it and what is left
abbrev pub TakesAtom : List Token → List Token → Result Atom ParseError → Type 0
TakesAtom old new (Ok atom) = condition_of old ≡ after_atom new (atom_view atom)
TakesAtom old new (Err e) = Fails e (condition_of old)

-- a conjunction before those that follow it
abbrev pub before_alternatives : List tree.Atom → Option tree.Condition → Option tree.Condition
before_alternatives atoms o = option_map (λ conjunctions. atoms ∷ conjunctions) o

-- the conjunction at the front: a condition reads as it and what is left
abbrev pub TakesConjunction : List Token → List Token → Result (Vec Atom Global) ParseError → Type 0
TakesConjunction old new (Ok atoms) = condition_of old ≡ before_alternatives (atoms_view atoms)
    (alternatives_of new)
TakesConjunction old new (Err e) = Fails e (condition_of old)
