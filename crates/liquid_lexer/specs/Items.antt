-- The written grammar of items: what stands between an opener and a closer. In each relation bs
-- begins with what is named, and rest follows it.
use Rattle.std.specs.Prelude.{◌≡◌, ℕ, ◌≤◌, List, [], ◌∷◌, ◌++◌, length, Bool, true, false, codes}
use Rattle.liquid_core.specs.Expression.{Expression}
use Rattle.liquid_model.specs.Bytes.{close_brace, close_parenthesis, dash, dot, open_parenthesis}
use Rattle.liquid_model.specs.Bytes.{percent}
use Rattle.liquid_model.specs.Words.{Blank}
use Rattle.liquid_lexer.specs.Values.{IsValue}
use Rattle.liquid_lexer.specs.declared.symbol.Symbol.{Symbol}
use Rattle.liquid_lexer.specs.declared.symbol.Symbol.TheVariants.{Equals, NotEquals, LessOrGreater}
use Rattle.liquid_lexer.specs.declared.symbol.Symbol.TheVariants.{LessThanEquals, GreaterThanEquals}
use Rattle.liquid_lexer.specs.declared.symbol.Symbol.TheVariants.{LessThan, GreaterThan, Assign}
use Rattle.liquid_lexer.specs.declared.symbol.Symbol.TheVariants.{Colon, Comma, Bar}
use Rattle.liquid_lexer.specs.declared.item.Delimiter.{Delimiter}
use Rattle.liquid_lexer.specs.declared.item.Delimiter.TheVariants.{Output, Tag}

-- a value with its spelling, a range, or a symbol
pub data Item : Type 0 where
  value : Expression → List ℕ → Item
  range : Expression → Expression → Item
  symbol : Symbol → Item

abbrev pub spelling_of : Symbol → List ℕ
spelling_of Equals = codes "=="
spelling_of NotEquals = codes "!="
spelling_of LessOrGreater = codes "<>"
spelling_of LessThanEquals = codes "<="
spelling_of GreaterThanEquals = codes ">="
spelling_of LessThan = codes "<"
spelling_of GreaterThan = codes ">"
spelling_of Assign = codes "="
spelling_of Colon = codes ":"
spelling_of Comma = codes ","
spelling_of Bar = codes "|"

-- the longest symbol that stands at the front
pub record IsSymbol (s : Symbol) (bs rest : List ℕ) : Type 0 where
  pub joined : bs ≡ spelling_of s ++ rest
  pub longest : (t : Symbol) (after : List ℕ) → bs ≡ spelling_of t ++ after →
      length (spelling_of t) ≤ length (spelling_of s)

-- `(value..value)` after its `(`, whitespace allowed around each value
pub data IsRange : Expression → Expression → List ℕ → List ℕ → Type 0 where
  is_range : {first second : Expression} {inside from until after next following rest : List ℕ}
      → Blank inside from → IsValue 200 first from until → Blank until (dot ∷ dot ∷ after)
      → Blank after next → IsValue 200 second next following →
      Blank following (close_parenthesis ∷ rest) → IsRange first second inside rest

pub data IsItem : Item → List ℕ → List ℕ → Type 0 where
  is_symbol : {s : Symbol} {bs rest : List ℕ} → IsSymbol s bs rest → IsItem (symbol s) bs rest
  is_interval : {first second : Expression} {inside rest : List ℕ} →
      IsRange first second inside rest →
      IsItem (range first second) (open_parenthesis ∷ inside) rest
  is_value : {x : Expression} {spelling bs rest : List ℕ} → IsValue 200 x bs rest →
      bs ≡ spelling ++ rest → IsItem (value x spelling) bs rest

-- an output closes by `}}`, a tag by `%}`
abbrev pub mark : Delimiter → ℕ
mark Output = close_brace
mark Tag = percent

-- a dash, or nothing
abbrev pub dash_if : Bool → List ℕ
dash_if true = dash ∷ []
dash_if false = []

-- a closer, with a dash where the truth value says so
abbrev pub IsCloser : Delimiter → Bool → List ℕ → List ℕ → Type 0
IsCloser k d bs rest = bs ≡ dash_if d ++ (mark k ∷ close_brace ∷ rest)

abbrev pub NoCloser : Delimiter → List ℕ → Type 0
NoCloser k bs = (d : Bool) (rest : List ℕ) → IsCloser k d bs rest → ⊥

-- the items up to the first closer in an item's place. The truth value: the closer has a dash
pub data AreItems : Delimiter → List Item → Bool → List ℕ → List ℕ → Type 0 where
  closed : {k : Delimiter} {d : Bool} {bs from rest : List ℕ} → Blank bs from →
      IsCloser k d from rest → AreItems k [] d bs rest
  item : {k : Delimiter} {d : Bool} {i : Item} {is : List Item} {bs from after rest : List ℕ} →
      Blank bs from → NoCloser k from → IsItem i from after → AreItems k is d after rest →
      AreItems k (i ∷ is) d bs rest
