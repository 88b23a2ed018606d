-- Outputs: what is written as it is, and what is escaped.
use Rattle.std.specs.Prelude.{◌≡◌, List, [], ◌∷◌, ◌++◌, reverse, Bool, ◌&&◌, cond, Option, Some}
use Rattle.std.specs.Prelude.{None, codes}
use Rattle.std.specs.Option.{option_map}
use Rattle.liquid_evaluation.specs.Escaped.{escaped_node}
use Rattle.liquid_evaluation.specs.Tree.{Chain, Node, output}
use Rattle.liquid_language.specs.Registered.{registered_in}
use Rattle.liquid_language.specs.declared.registry.Language.{Language}
use Rattle.liquid_lexer.specs.Tokens.{Token, is_symbol, is_word, symbol, word}
use Rattle.liquid_lexer.specs.declared.symbol.Symbol.TheVariants.{Bar}
use Rattle.liquid_parser.specs.ChainReading.{chain_of}
use Rattle.liquid_parser.specs.Chains.{IsChain}

-- the node of an output or a `cycle`: escaped where the language escapes
abbrev pub shown_node : Language → Node → Node
shown_node l n = cond l.escapes_html (escaped_node n) n

-- the end of an output that is written as it is where others are escaped
abbrev pub raw_end : List Token
raw_end = symbol Bar ∷ word (codes "raw") ∷ []

-- the tokens of an output that is written as it is
abbrev pub as_it_is : Language → List Token → List Token
as_it_is l ts = cond l.escapes_html (ts ++ raw_end) ts

-- ---- reading

-- two tokens, the last first
abbrev pub is_raw_end : Token → Token → Bool
is_raw_end last before = is_symbol Bar before && is_word (codes "raw") last

-- of tokens with the last first, what stands before a `| raw`
abbrev pub after_raw : List Token → Option (List Token)
after_raw [] = None
after_raw (last ∷ []) = None
after_raw (last ∷ before ∷ ts) = cond (is_raw_end last before) (Some (reverse ts)) None

-- what stands before a `| raw` that ends the tokens
abbrev pub before_raw : List Token → Option (List Token)
before_raw ts = after_raw (reverse ts)

-- the same, in a language that escapes
abbrev pub left_raw : Language → List Token → Option (List Token)
left_raw l ts = cond l.escapes_html (before_raw ts) None

-- the node of an output of these tokens, of which `front` is what stands before its `| raw`
abbrev pub node_or : Language → List Token → Option (List Token) → Option Node
node_or l ts (Some front) = option_map output (chain_of (registered_in l.filters) front)
node_or l ts None =
    option_map (λ c. shown_node l (output c)) (chain_of (registered_in l.filters) ts)

abbrev pub output_of : Language → List Token → Option Node
output_of l ts = node_or l ts (left_raw l ts)

-- ---- the grammar

-- a chain, and in a language that escapes perhaps `| raw` after it
pub data IsOutput (l : Language) : Node → List Token → Type 0 where
  is_shown : {c : Chain} {ts : List Token} → left_raw l ts ≡ None →
      IsChain (registered_in l.filters) c ts → IsOutput l (shown_node l (output c)) ts
  is_left : {c : Chain} {ts front : List Token} → left_raw l ts ≡ Some front →
      IsChain (registered_in l.filters) c front → IsOutput l (output c) ts
