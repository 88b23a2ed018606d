-- The laws of outputs: which are escaped.
use Rattle.std.specs.Prelude.{◌≡◌, ◌↔◌, List, ◌++◌, true, false}
use Rattle.liquid_evaluation.specs.Escaped.{escaped_node}
use Rattle.liquid_evaluation.specs.Tree.{Chain, Node, output}
use Rattle.liquid_language.specs.Registered.{registered_in}
use Rattle.liquid_language.specs.declared.registry.Language.{Language}
use Rattle.liquid_lexer.specs.Tokens.{Token}
use Rattle.liquid_parser.specs.Chains.{IsChain}
use Rattle.liquid_parser.specs.Outputs.{IsOutput, raw_end}

-- the tokens are a chain of the language, and the node is what is made of it
abbrev pub IsOfChain : Language → (Chain → Node) → Node → List Token → Type 0
IsOfChain l make n ts = (c : Chain) × (n ≡ make c) × IsChain (registered_in l.filters) c ts

-- in a language that doesn't escape an output is its chain's
abbrev pub PlainOutputs : Type 0
PlainOutputs = (l : Language) (n : Node) (ts : List Token) → l.escapes_html ≡ false →
    IsOutput l n ts ↔ IsOfChain l (λ c. output c) n ts

-- in one that does, so is the output that ends with `| raw`
abbrev pub RawOutputs : Type 0
RawOutputs = (l : Language) (n : Node) (ts : List Token) → l.escapes_html ≡ true →
    IsOutput l n (ts ++ raw_end) ↔ IsOfChain l (λ c. output c) n ts

-- and any other is escaped
abbrev pub OthersEscaped : Type 0
OthersEscaped = (l : Language) (n : Node) (ts : List Token) → l.escapes_html ≡ true →
    ((front : List Token) → ts ≡ front ++ raw_end → ⊥) →
    IsOutput l n ts ↔ IsOfChain l (λ c. escaped_node (output c)) n ts
