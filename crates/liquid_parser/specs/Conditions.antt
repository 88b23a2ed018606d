-- The written grammar of conditions: which tokens a condition is.
use Rattle.std.specs.Prelude.{List, [], ◌∷◌, ◌++◌, codes}
use Rattle.liquid_core.specs.Expression.{Expression}
use Rattle.liquid_lexer.specs.Tokens.{Token, value, symbol, word}
use Rattle.liquid_evaluation.specs.Tree.{Atom, bare, compared, Condition}
use Rattle.liquid_evaluation.specs.declared.comparison.ComparisonOperator.{ComparisonOperator}
use Rattle.liquid_evaluation.specs.declared.comparison.ComparisonOperator.TheVariants as operators
use Rattle.liquid_lexer.specs.declared.symbol.Symbol.TheVariants as symbols

-- the words of conditions
abbrev pub and_word : Token
and_word = word (codes "and")

abbrev pub or_word : Token
or_word = word (codes "or")

abbrev pub contains_word : Token
contains_word = word (codes "contains")

-- `==`, `!=` or `<>`, `<`, `>`, `<=`, `>=` and the word `contains`
pub data IsOperator : ComparisonOperator → Token → Type 0 where
  equals : IsOperator operators.Equals (symbol symbols.Equals)
  not_equals : IsOperator operators.NotEquals (symbol symbols.NotEquals)
  less_or_greater : IsOperator operators.NotEquals (symbol symbols.LessOrGreater)
  less : IsOperator operators.LessThan (symbol symbols.LessThan)
  greater : IsOperator operators.GreaterThan (symbol symbols.GreaterThan)
  less_or_equal : IsOperator operators.LessThanEquals (symbol symbols.LessThanEquals)
  greater_or_equal : IsOperator operators.GreaterThanEquals (symbol symbols.GreaterThanEquals)
  contains : IsOperator operators.Contains contains_word

-- a value, or an operator between two
pub data IsAtom : Atom → List Token → Type 0 where
  bare_value : (x : Expression) → IsAtom (bare x) (value x ∷ [])
  comparison : {operator : ComparisonOperator} {t : Token} (x y : Expression) →
      IsOperator operator t → IsAtom (compared x operator y) (value x ∷ t ∷ value y ∷ [])

-- one atom or more, the word `and` between each two
pub data IsConjunction : List Atom → List Token → Type 0 where
  one_atom : {a : Atom} {ts : List Token} → IsAtom a ts → IsConjunction (a ∷ []) ts
  and_more : {a : Atom} {more : List Atom} {ts us : List Token} → IsAtom a ts →
      IsConjunction more us → IsConjunction (a ∷ more) (ts ++ (and_word ∷ us))

-- one conjunction or more, the word `or` between each two
pub data IsCondition : Condition → List Token → Type 0 where
  one_conjunction : {c : List Atom} {ts : List Token} → IsConjunction c ts → IsCondition (c ∷ []) ts
  or_more : {c : List Atom} {more : Condition} {ts us : List Token} → IsConjunction c ts →
      IsCondition more us → IsCondition (c ∷ more) (ts ++ (or_word ∷ us))
