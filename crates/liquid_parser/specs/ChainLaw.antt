-- The laws of chains and of `assign`.
use Rattle.std.specs.Prelude.{◌≡◌, ◌↔◌, List, Some}
use Rattle.liquid_model.specs.Texts.{Text}
use Rattle.liquid_parser.specs.ChainReading.{chain_of}
use Rattle.liquid_parser.specs.Chains.{Filters, IsChain, IsAssign}
use Rattle.liquid_parser.specs.Classification.{assign_of}
use Rattle.liquid_language.specs.Registered.{registered_in}
use Rattle.liquid_lexer.specs.Tokens.{Token}
use Rattle.liquid_evaluation.specs.Tree.{Chain, assign}
use Rattle.liquid_language.specs.declared.registry.Language.{Language}

-- tokens are read as a chain exactly where the grammar says that they are it
abbrev pub ReadsChains : Type 0
ReadsChains = (known : Filters) (c : Chain) (ts : List Token) → (chain_of known ts ≡ Some c) ↔
    IsChain known c ts

-- so are the items of an `assign`
abbrev pub ReadsAssigns : Type 0
ReadsAssigns = (l : Language) (w : Text) (c : Chain) (ts : List Token) →
    (assign_of l ts ≡ Some (assign w c)) ↔ IsAssign (registered_in l.filters) w c ts
