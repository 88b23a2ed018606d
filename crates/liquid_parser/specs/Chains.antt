-- The written grammar of chains: which tokens a chain is.
use Rattle.std.specs.Prelude.{◌≡◌, List, [], ◌∷◌, ◌++◌, length, IsTrue, Some}
use Rattle.liquid_model.specs.Texts.{Text}
use Rattle.liquid_model.specs.Maps.{listed}
use Rattle.liquid_core.specs.Expression.{Expression}
use Rattle.liquid_evaluation.specs.Tree.{Filter, FilterCall, Chain, existing, hosted}
use Rattle.liquid_lexer.specs.Tokens.{Token, value, symbol, word}
use Rattle.liquid_language.specs.Registered.{registered_counts}
use Rattle.liquid_language.specs.declared.registered_filter.RegisteredFilter.{RegisteredFilter}
use Rattle.liquid_language.specs.declared.registered_filter.RegisteredFilter.TheVariants.{Kind}
use Rattle.liquid_language.specs.declared.registered_filter.RegisteredFilter.TheVariants.{Host}
use Rattle.liquid_lexer.specs.declared.symbol.Symbol.TheVariants.{Assign, Colon, Comma, Bar}

-- the filters that are registered, by name
abbrev pub Filters : Type 0
Filters = List (Text × RegisteredFilter)

-- what a call of the name runs
abbrev pub called_as : Text → RegisteredFilter → Filter
called_as name (Kind kind) = existing kind
called_as name (Host least most) = hosted name

-- `, v` for each
abbrev pub further_arguments : List Expression → List Token
further_arguments [] = []
further_arguments (x ∷ xs) = symbol Comma ∷ value x ∷ further_arguments xs

-- `: v, v ..`, or nothing
abbrev pub arguments : List Expression → List Token
arguments [] = []
arguments (x ∷ xs) = symbol Colon ∷ value x ∷ further_arguments xs

-- `| name: v, v ..` for each: the name is registered, and may be given that number of arguments
pub data AreFilters (known : Filters) : List FilterCall → List Token → Type 0 where
  none : AreFilters known [] []
  filter : {filter : RegisteredFilter} {xs : List Expression} {calls : List FilterCall}
      {ts : List Token} (name : Text)
      → listed known name ≡ Some filter → IsTrue (registered_counts filter (length xs)) →
      AreFilters known calls ts
      → AreFilters known (record {
        filter = called_as name filter;
        arguments = xs;
        required = length xs;
      } ∷ calls) (symbol Bar ∷ word name ∷ (arguments xs ++ ts))

-- a value, and filters
abbrev pub IsChain : Filters → Chain → List Token → Type 0
IsChain known chain ts = (rest : List Token) × (ts ≡ value chain.entry ∷ rest) ×
    AreFilters known chain.filters rest

-- ---- `assign`

-- a word, `=` and a chain
abbrev pub IsAssign : Filters → Text → Chain → List Token → Type 0
IsAssign known w c ts = (rest : List Token) × (ts ≡ word w ∷ symbol Assign ∷ rest) ×
    IsChain known c rest
