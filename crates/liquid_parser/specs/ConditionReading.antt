-- Reading a condition from tokens, one after another.
use Rattle.std.specs.Prelude.{List, [], ◌∷◌, codes, cond, Option, Some, None}
use Rattle.std.specs.Option.{option_map}
use Rattle.liquid_core.specs.Expression.{Expression}
use Rattle.liquid_lexer.specs.Tokens.{Token, value, range, symbol, if_value, is_word}
use Rattle.liquid_evaluation.specs.Tree.{Atom, bare, compared, Condition}
use Rattle.liquid_evaluation.specs.declared.comparison.ComparisonOperator.{ComparisonOperator}
use Rattle.liquid_evaluation.specs.declared.comparison.ComparisonOperator.TheVariants as operators
use Rattle.liquid_lexer.specs.declared.symbol.Symbol.{Symbol}
use Rattle.liquid_lexer.specs.declared.symbol.Symbol.TheVariants as symbols

-- the operator that a symbol is
abbrev pub symbol_operator : Symbol → Option ComparisonOperator
symbol_operator symbols.Equals = Some operators.Equals
symbol_operator symbols.NotEquals = Some operators.NotEquals
symbol_operator symbols.LessOrGreater = Some operators.NotEquals
symbol_operator symbols.LessThanEquals = Some operators.LessThanEquals
symbol_operator symbols.GreaterThanEquals = Some operators.GreaterThanEquals
symbol_operator symbols.LessThan = Some operators.LessThan
symbol_operator symbols.GreaterThan = Some operators.GreaterThan
symbol_operator symbols.Assign = None
symbol_operator symbols.Colon = None
symbol_operator symbols.Comma = None
symbol_operator symbols.Bar = None

-- the operator that a token is
abbrev pub operator_of : Token → Option ComparisonOperator
operator_of (value x) = cond (is_word (codes "contains") (value x)) (Some operators.Contains) None
operator_of (range x y) = None
operator_of (symbol s) = symbol_operator s

-- an atom before the first conjunction
abbrev pub with_atom : Atom → Condition → Condition
with_atom a [] = (a ∷ []) ∷ []
with_atom a (c ∷ cs) = (a ∷ c) ∷ cs

-- what an atom and the token after it give, where a condition may be after that
abbrev pub atom_joined : Atom → Token → Option Condition → Option Condition
atom_joined a t o = cond (is_word (codes "and") t) (option_map (with_atom a) o)
    (option_map (λ cs. (a ∷ []) ∷ cs) (cond (is_word (codes "or") t) o None))

-- a comparison, where the token is an operator
abbrev pub compared_or : Option ComparisonOperator → (ComparisonOperator → Option Condition) →
    Option Condition → Option Condition
compared_or None f o = o
compared_or (Some operator) f o = f operator

-- each eats one token, and answers what all that is left gives
unfoldable mutual
  -- a condition
  pub condition_of : List Token → Option Condition
  condition_of [] = None
  condition_of (t ∷ ts) = if_value t (after_value ts)

  -- after the first value of an atom
  pub after_value : List Token → Expression → Option Condition
  after_value [] x = Some ((bare x ∷ []) ∷ [])
  after_value (t ∷ ts) x = compared_or (operator_of t) (after_operator ts x)
      (atom_joined (bare x) t (condition_of ts))

  -- after an operator
  pub after_operator : List Token → Expression → ComparisonOperator → Option Condition
  after_operator [] x operator = None
  after_operator (t ∷ ts) x operator = if_value t (λ y. after_atom ts (compared x operator y))

  -- after an atom
  pub after_atom : List Token → Atom → Option Condition
  after_atom [] a = Some ((a ∷ []) ∷ [])
  after_atom (t ∷ ts) a = atom_joined a t (condition_of ts)

-- after a conjunction: nothing, or `or` and a condition
unfoldable pub alternatives_of : List Token → Option Condition
alternatives_of [] = Some []
alternatives_of (t ∷ ts) = cond (is_word (codes "or") t) (condition_of ts) None
