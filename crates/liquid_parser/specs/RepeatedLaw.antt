-- The laws of items that may stand any number of times.
use Rattle.std.specs.Prelude.{◌≡◌, ◌↔◌, List, Some}
use Rattle.liquid_core.specs.Expression.{Expression}
use Rattle.liquid_lexer.specs.Tokens.{Token}
use Rattle.liquid_evaluation.specs.Tree.{Bindings}
use Rattle.liquid_parser.specs.Bound.{ArePairs, bound_pairs}
use Rattle.liquid_parser.specs.Loops.{Head, IsLoop, loop_of}
use Rattle.liquid_parser.specs.ValueLists.{AreValues, values_of}
use Rattle.liquid_parser.specs.declared.loop_items.LoopTag.{LoopTag}
use Rattle.liquid_parser.specs.declared.pair_items.PairStyle.{PairStyle}
use Rattle.liquid_parser.specs.declared.value_items.Separators.{Separators}

abbrev pub ReadsValues : Type 0
ReadsValues = (s : Separators) (xs : List Expression) (ts : List Token) →
    (values_of s ts ≡ Some xs) ↔ AreValues s xs ts

abbrev pub ReadsLoops : Type 0
ReadsLoops = (k : LoopTag) (h : Head) (ts : List Token) → (loop_of k ts ≡ Some h) ↔ IsLoop k h ts

abbrev pub ReadsPairs : Type 0
ReadsPairs = (k : PairStyle) (ps : Bindings) (ts : List Token) → (bound_pairs k ts ≡ Some ps) ↔
    ArePairs k ps ts
