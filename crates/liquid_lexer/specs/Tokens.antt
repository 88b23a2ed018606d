-- Tokens: what the items of a piece say, without their spelling.
use Rattle.std.specs.Prelude.{ℕ, nat_eq, List, [], ◌∷◌, map, Bool, false, Option, Some, None, cond}
use Rattle.std.specs.Prelude.{bytes_eq}
use Rattle.std.specs.Option.{option_and_then, option_map}
use Rattle.liquid_model.specs.Texts.{Text}
use Rattle.liquid_core.specs.Expression.{Expression, literal, variable, Steps, no_steps, step}
use Rattle.liquid_lexer.specs.Items as items
use Rattle.liquid_lexer.specs.PieceView.{item_view}
use Rattle.liquid_lexer.specs.declared.item.Item.{Item}
use Rattle.liquid_lexer.specs.declared.symbol.Symbol.{Symbol}
use Rattle.liquid_lexer.specs.declared.symbol.Symbol.TheVariants.{Equals, NotEquals, LessOrGreater}
use Rattle.liquid_lexer.specs.declared.symbol.Symbol.TheVariants.{LessThanEquals, GreaterThanEquals}
use Rattle.liquid_lexer.specs.declared.symbol.Symbol.TheVariants.{LessThan, GreaterThan, Assign}
use Rattle.liquid_lexer.specs.declared.symbol.Symbol.TheVariants.{Colon, Comma, Bar}

pub data Token : Type 0 where
  value : Expression → Token
  range : Expression → Expression → Token
  symbol : Symbol → Token

abbrev pub token_of : items.Item → Token
token_of (items.value x spelling) = value x
token_of (items.range x y) = range x y
token_of (items.symbol s) = symbol s

abbrev pub tokens_of : List items.Item → List Token
tokens_of is = map token_of is

abbrev pub tokens_view : List Item → List Token
tokens_view is = map (λ i. token_of (item_view i)) is

-- the number of a symbol among all
abbrev pub symbol_number : Symbol → ℕ
symbol_number Equals = 0
symbol_number NotEquals = 1
symbol_number LessOrGreater = 2
symbol_number LessThanEquals = 3
symbol_number GreaterThanEquals = 4
symbol_number LessThan = 5
symbol_number GreaterThan = 6
symbol_number Assign = 7
symbol_number Colon = 8
symbol_number Comma = 9
symbol_number Bar = 10

-- a word: a variable without steps
abbrev pub word : Text → Token
word w = value (variable w no_steps)

-- ---- taking tokens off the front

abbrev pub if_value : {A : Type 0} → Token → (Expression → Option A) → Option A
if_value (value x) f = f x
if_value (range x y) f = None
if_value (symbol s) f = None

abbrev pub word_if : Text → Steps → Option Text
word_if w no_steps = Some w
word_if w (step x more) = None

-- the word that an expression is
abbrev pub word_in : Expression → Option Text
word_in (literal d) = None
word_in (variable w steps) = word_if w steps

abbrev pub word_of : Token → Option Text
word_of t = if_value t word_in

abbrev pub value_first : List Token → Option (Expression × List Token)
value_first [] = None
value_first (t ∷ ts) = if_value t (λ x. Some (x, ts))

abbrev pub word_first : List Token → Option (Text × List Token)
word_first ts = option_and_then (λ x. option_map (λ w. (w, x.1)) (word_in x.0)) (value_first ts)

-- whether two symbols are the same
abbrev pub same_symbol : Symbol → Symbol → Bool
same_symbol s t = nat_eq (symbol_number s) (symbol_number t)

abbrev pub is_symbol : Symbol → Token → Bool
is_symbol s (symbol t) = same_symbol s t
is_symbol s t = false

-- what follows a symbol at the front
abbrev pub past : Symbol → List Token → Option (List Token)
past s [] = None
past s (t ∷ ts) = cond (is_symbol s t) (Some ts) None

-- whether a token is this word
abbrev pub is_that : Text → Option Text → Bool
is_that w None = false
is_that w (Some u) = bytes_eq u w

abbrev pub is_word : Text → Token → Bool
is_word w t = is_that w (word_of t)

-- what follows a word at the front
abbrev pub past_word : Text → List Token → Option (List Token)
past_word w [] = None
past_word w (t ∷ ts) = cond (is_word w t) (Some ts) None
