-- The law of conditions.
use Rattle.std.specs.Prelude.{◌≡◌, ◌↔◌, List, Some}
use Rattle.liquid_parser.specs.ConditionReading.{condition_of}
use Rattle.liquid_parser.specs.Conditions.{IsCondition}
use Rattle.liquid_lexer.specs.Tokens.{Token}
use Rattle.liquid_evaluation.specs.Tree.{Condition}

-- tokens are read as a condition exactly where the grammar says that they are it
abbrev pub ReadsConditions : Type 0
ReadsConditions = (c : Condition) (ts : List Token) → (condition_of ts ≡ Some c) ↔ IsCondition c ts
