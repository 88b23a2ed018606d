-- What is read between an opener and a closer, as functions.
use Rattle.std.specs.Prelude.{ℕ, zero, suc, List, [], ◌∷◌, length, take, ◌-◌, Bool, true, false}
use Rattle.std.specs.Prelude.{Option, Some, None}
use Rattle.std.specs.Option.{option_and_then, option_map, option_or}
use Rattle.liquid_model.specs.Bytes.{bar, close_brace, close_parenthesis, colon, comma, dash, dot}
use Rattle.liquid_model.specs.Bytes.{equals_sign, exclamation_mark, greater_sign, less_sign}
use Rattle.liquid_model.specs.Bytes.{open_parenthesis}
use Rattle.liquid_lexer.specs.ValueReading.{◌>>=◌, expression_at}
use Rattle.liquid_model.specs.Front.{Reads, past_white, past_byte}
use Rattle.liquid_lexer.specs.Items.{Item, value, range, symbol, mark}
use Rattle.liquid_lexer.specs.declared.symbol.Symbol.{Symbol}
use Rattle.liquid_lexer.specs.declared.symbol.Symbol.TheVariants.{Equals, NotEquals, LessOrGreater}
use Rattle.liquid_lexer.specs.declared.symbol.Symbol.TheVariants.{LessThanEquals, GreaterThanEquals}
use Rattle.liquid_lexer.specs.declared.symbol.Symbol.TheVariants.{LessThan, GreaterThan, Assign}
use Rattle.liquid_lexer.specs.declared.symbol.Symbol.TheVariants.{Colon, Comma, Bar}
use Rattle.liquid_lexer.specs.declared.item.Delimiter.{Delimiter}

abbrev pub two_bytes : ℕ → ℕ → Symbol → Reads Symbol
two_bytes b c s bs = option_map (λ rest. (s, rest)) (option_and_then (past_byte c) (past_byte b bs))

abbrev pub one_byte : ℕ → Symbol → Reads Symbol
one_byte b s bs = option_map (λ rest. (s, rest)) (past_byte b bs)

unfoldable pub long_symbol_at : Reads Symbol
long_symbol_at bs =
    option_or (two_bytes equals_sign equals_sign Equals bs)
    (option_or (two_bytes exclamation_mark equals_sign NotEquals bs)
    (option_or (two_bytes less_sign greater_sign LessOrGreater bs)
    (option_or (two_bytes less_sign equals_sign LessThanEquals bs)
    (two_bytes greater_sign equals_sign GreaterThanEquals bs))))

unfoldable pub short_symbol_at : Reads Symbol
short_symbol_at bs =
    option_or (one_byte less_sign LessThan bs) (option_or (one_byte greater_sign GreaterThan bs)
    (option_or (one_byte equals_sign Assign bs) (option_or (one_byte colon Colon bs)
    (option_or (one_byte comma Comma bs) (one_byte bar Bar bs)))))

-- the longest first
abbrev pub symbol_at : Reads Symbol
symbol_at bs = option_or (long_symbol_at bs) (short_symbol_at bs)

-- after the `(` of a range
unfoldable pub range_at : Reads Item
range_at bs = do
  first ← expression_at 200 (past_white bs)
  one ← past_byte dot (past_white first.1)
  after ← past_byte dot one
  second ← expression_at 200 (past_white after)
  rest ← past_byte close_parenthesis (past_white second.1)
  Some (range first.0 second.0, rest)

-- what the text has before its rest
abbrev pub before : List ℕ → List ℕ → List ℕ
before bs rest = take (length bs - length rest) bs

abbrev pub range_or_value : List ℕ → Option (List ℕ) → Option (Item × List ℕ)
range_or_value bs (Some inside) = range_at inside
range_or_value bs None = option_map (λ v. (value v.0 (before bs v.1), v.1)) (expression_at 200 bs)

abbrev pub item_by : List ℕ → Option (Symbol × List ℕ) → Option (Item × List ℕ)
item_by bs (Some s) = Some (symbol s.0, s.1)
item_by bs None = range_or_value bs (past_byte open_parenthesis bs)

unfoldable pub lexed_item : Reads Item
lexed_item bs = item_by bs (symbol_at bs)

abbrev pub bare_closer_at : Delimiter → List ℕ → Option (List ℕ)
bare_closer_at k bs = option_and_then (past_byte close_brace) (past_byte (mark k) bs)

abbrev pub closer_by : Delimiter → List ℕ → Option (List ℕ) → Option (Bool × List ℕ)
closer_by k bs (Some rest) = option_map (λ r. (true, r)) (bare_closer_at k rest)
closer_by k bs None = option_map (λ r. (false, r)) (bare_closer_at k bs)

-- a closer at the front: whether it has a dash, and what follows it
unfoldable pub closer_at : Delimiter → List ℕ → Option (Bool × List ℕ)
closer_at k bs = closer_by k bs (past_byte dash bs)

-- items, whether the closer has a dash, and what follows it
abbrev pub ReadItems : Type 0
ReadItems = List Item × Bool × List ℕ

module _ (k : Delimiter) where
  abbrev pub items_by : (List ℕ → Option ReadItems) → List ℕ → Option (Bool × List ℕ) →
      Option ReadItems
  items_by again bs (Some x) = Some ([], x.0, x.1)
  items_by again bs None =
      option_and_then (λ i. option_map (λ r. (i.0 ∷ r.0, r.1, r.2)) (again i.1)) (lexed_item bs)

  unfoldable pub items_at : ℕ → List ℕ → Option ReadItems
  items_at zero bs = items_by (λ bs. None) (past_white bs) (closer_at k (past_white bs))
  items_at (suc n) bs = items_by (items_at n) (past_white bs) (closer_at k (past_white bs))
