-- Values with something between each two, up to the end of a tag's items: how they are written, and
-- how they are read.
use Rattle.std.specs.Prelude.{List, [], ◌∷◌, ◌++◌, Bool, true, false, cond, Option, Some, None}
use Rattle.std.specs.Option.{option_and_then, option_map}
use Rattle.liquid_core.specs.Expression.{Expression}
use Rattle.liquid_lexer.specs.Tokens.{Token, value, symbol, value_first, is_symbol, is_word}
use Rattle.liquid_lexer.specs.declared.symbol.Symbol.TheVariants.{Comma}
use Rattle.liquid_parser.specs.Conditions.{or_word}
use Rattle.liquid_parser.specs.Repeated.{AreRepeated, repeated_of}
use Rattle.std.specs.Prelude.{codes}
use Rattle.liquid_parser.specs.declared.value_items.Separators.{Separators}
use Rattle.liquid_parser.specs.declared.value_items.Separators.TheVariants.{Commas, CommasOr}
use Rattle.liquid_parser.specs.declared.value_items.Separators.TheVariants.{OptionalCommas}

-- ---- the grammar

-- a `,`, and where it is allowed the word `or`, or nothing
pub data IsSeparator : Separators → List Token → Type 0 where
  a_comma : {s : Separators} → IsSeparator s (symbol Comma ∷ [])
  an_or : IsSeparator CommasOr (or_word ∷ [])
  no_separator : IsSeparator OptionalCommas []

-- a value after a separator
pub data IsFurther (s : Separators) : Expression → List Token → Type 0 where
  a_further : {ts : List Token} (x : Expression) → IsSeparator s ts →
      IsFurther s x (ts ++ value x ∷ [])

-- nothing, or where commas alone separate one more of them
pub data IsValuesEnd : Separators → List Token → Type 0 where
  no_value : {s : Separators} → IsValuesEnd s []
  a_last_comma : IsValuesEnd Commas (symbol Comma ∷ [])

-- one value or more
pub data AreValues (s : Separators) : List Expression → List Token → Type 0 where
  some_values : {xs : List Expression} {ts : List Token} (x : Expression) →
      AreRepeated (IsFurther s) (IsValuesEnd s) xs ts → AreValues s (x ∷ xs) (value x ∷ ts)

-- ---- reading

abbrev pub is_separator : Separators → Token → Bool
is_separator Commas t = is_symbol Comma t
is_separator CommasOr t = cond (is_symbol Comma t) true (is_word (codes "or") t)
is_separator OptionalCommas t = is_symbol Comma t

-- all of them, where no separator is needed
abbrev pub without_separator : Separators → List Token → Option (List Token)
without_separator Commas ts = None
without_separator CommasOr ts = None
without_separator OptionalCommas ts = Some ts

abbrev pub past_separator : Separators → List Token → Option (List Token)
past_separator s [] = without_separator s []
past_separator s (t ∷ ts) = cond (is_separator s t) (Some ts) (without_separator s (t ∷ ts))

abbrev pub further_first : Separators → List Token → Option (Expression × List Token)
further_first s ts = option_and_then value_first (past_separator s ts)

abbrev pub last_comma : Separators → Token → Bool
last_comma Commas t = is_symbol Comma t
last_comma CommasOr t = false
last_comma OptionalCommas t = false

abbrev pub ends_values : Separators → List Token → Bool
ends_values s [] = true
ends_values s (t ∷ []) = last_comma s t
ends_values s (t ∷ u ∷ ts) = false

abbrev pub further_of : Separators → List Token → Option (List Expression)
further_of s ts = repeated_of (further_first s) (ends_values s) ts

abbrev pub values_of : Separators → List Token → Option (List Expression)
values_of s ts = option_and_then (λ x. option_map (λ xs. x.0 ∷ xs) (further_of s x.1))
    (value_first ts)

-- values, or nothing
abbrev pub any_values_of : Separators → List Token → Option (List Expression)
any_values_of s [] = Some []
any_values_of s (t ∷ ts) = values_of s (t ∷ ts)
