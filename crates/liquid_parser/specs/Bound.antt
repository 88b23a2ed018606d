-- Pairs of a name and a value in a tag's items: how they are written, and how they are read.
use Rattle.std.specs.Prelude.{◌≡◌, List, [], ◌∷◌, Bool, true, false, Option, Some}
use Rattle.std.specs.Option.{option_and_then, option_map}
use Rattle.liquid_core.specs.Expression.{Expression}
use Rattle.liquid_model.specs.Texts.{Text}
use Rattle.liquid_lexer.specs.Tokens.{Token, value, symbol, word, value_first, word_first, past}
use Rattle.liquid_lexer.specs.Tokens.{is_symbol}
use Rattle.liquid_lexer.specs.declared.symbol.Symbol.{Symbol}
use Rattle.liquid_lexer.specs.declared.symbol.Symbol.TheVariants.{Assign, Colon, Comma}
use Rattle.liquid_evaluation.specs.Tree.{Bindings}
use Rattle.liquid_parser.specs.Repeated.{AreRepeated, repeated_of}
use Rattle.liquid_parser.specs.declared.pair_items.PairStyle.{PairStyle}
use Rattle.liquid_parser.specs.declared.pair_items.PairStyle.TheVariants.{Include, JekyllInclude}
use Rattle.liquid_parser.specs.declared.pair_items.PairStyle.TheVariants.{Render}

-- the symbol between a name and its value
abbrev pub mark_of : PairStyle → Symbol
mark_of Include = Colon
mark_of JekyllInclude = Assign
mark_of Render = Colon

-- whether a `,` stands before each pair
abbrev pub is_separated : PairStyle → Bool
is_separated Include = true
is_separated JekyllInclude = false
is_separated Render = true

-- ---- the grammar

-- a name, the symbol and a value
pub data IsPair (s : Symbol) : Text × Expression → List Token → Type 0 where
  a_pair : (w : Text) (x : Expression) → IsPair s (w, x) (word w ∷ symbol s ∷ value x ∷ [])

-- one of the pairs, with a `,` before it where they are separated
pub data IsOneOf (k : PairStyle) : Text × Expression → List Token → Type 0 where
  after_comma : {p : Text × Expression} {ts : List Token} → is_separated k ≡ true →
      IsPair (mark_of k) p ts → IsOneOf k p (symbol Comma ∷ ts)
  unseparated : {p : Text × Expression} {ts : List Token} → is_separated k ≡ false →
      IsPair (mark_of k) p ts → IsOneOf k p ts

-- after the last pair stands nothing, or one item of any kind (include), or one `,` (render)
pub data IsPairsEnd : PairStyle → List Token → Type 0 where
  no_item : {k : PairStyle} → IsPairsEnd k []
  any_item : (t : Token) → IsPairsEnd Include (t ∷ [])
  last_comma : IsPairsEnd Render (symbol Comma ∷ [])

-- pairs, one after another, up to the end of the items
abbrev pub ArePairs : PairStyle → Bindings → List Token → Type 0
ArePairs k ps ts = AreRepeated (IsOneOf k) (IsPairsEnd k) ps ts

-- ---- reading

abbrev pub pair_first : Symbol → List Token → Option ((Text × Expression) × List Token)
pair_first s ts =
    option_and_then
    (λ w. option_and_then (λ rest. option_map (λ x. ((w.0, x.0), x.1)) (value_first rest))
    (past s w.1)) (word_first ts)

-- what follows a `,`, or where none is wanted all of it
abbrev pub past_comma : Bool → List Token → Option (List Token)
past_comma true ts = past Comma ts
past_comma false ts = Some ts

abbrev pub one_first : PairStyle → List Token → Option ((Text × Expression) × List Token)
one_first k ts = option_and_then (pair_first (mark_of k)) (past_comma (is_separated k) ts)

abbrev pub is_last : PairStyle → Token → Bool
is_last Include t = true
is_last JekyllInclude t = false
is_last Render t = is_symbol Comma t

abbrev pub ends_pairs : PairStyle → List Token → Bool
ends_pairs k [] = true
ends_pairs k (t ∷ []) = is_last k t
ends_pairs k (t ∷ u ∷ ts) = false

abbrev pub bound_pairs : PairStyle → List Token → Option Bindings
bound_pairs k ts = repeated_of (one_first k) (ends_pairs k) ts
