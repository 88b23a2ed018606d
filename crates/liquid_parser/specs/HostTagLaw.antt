-- The laws of a host's tags and blocks.
use Rattle.std.specs.Prelude.{◌≡◌, ◌↔◌, ℕ, List, [], ◌∷◌, ◌++◌, length, Some}
use Rattle.liquid_model.specs.Texts.{Text}
use Rattle.liquid_core.specs.Expression.{Expression}
use Rattle.liquid_evaluation.specs.Tree.{Filter, FilterCall, output}
use Rattle.liquid_lexer.specs.Items.{Item}
use Rattle.liquid_lexer.specs.Pieces as pieces
use Rattle.liquid_lexer.specs.Tokens.{symbol, tokens_of, value, word}
use Rattle.liquid_lexer.specs.declared.symbol.Symbol.TheVariants.{Bar}
use Rattle.liquid_language.specs.HostTags.{BlockCall, TagCall, block_at, call_at, end_in}
use Rattle.liquid_language.specs.HostTags.{numbers_of}
use Rattle.liquid_language.specs.Roles.{role_of}
use Rattle.liquid_language.specs.declared.block.Block.TheVariants.{Host}
use Rattle.liquid_language.specs.declared.block.BlockContext.{BlockContext}
use Rattle.liquid_language.specs.declared.block.BlockContext.TheVariants.{InLast}
use Rattle.liquid_language.specs.declared.block.Role.TheVariants.{HostBlock, HostTag}
use Rattle.liquid_language.specs.declared.registry.Language.{Language}
use Rattle.liquid_parser.specs.Chains.{arguments}
use Rattle.liquid_parser.specs.HostTags.{AreTagValues, call_requiring, through_call}
use Rattle.liquid_parser.specs.Nesting.{Statement, begins, ends, leaf, of_one}
use Rattle.liquid_parser.specs.Outputs.{as_it_is}
use Rattle.liquid_parser.specs.Statements.{IsStatement}

-- the value goes through the call, and is shown
abbrev pub shown_call : Expression → FilterCall → Statement
shown_call v call = leaf (output (record { entry = v; filters = call ∷ [] }))

-- `{% w a, b %}` is the output that `{{ input | filter: a, b, given }}` is, with `| raw` after it
-- where the language escapes, and none where that is none, but for what is required: in the tag its
-- values alone, in the output each argument
abbrev pub HostTagsAreOutputs : Type 0
HostTagsAreOutputs =
    (l : Language) (x : BlockContext) (w : Text) (n : ℕ) (called : TagCall) (xs : List Expression)
    (is os : List Item) (filter : Filter)
    → role_of l x w ≡ Some (HostTag n) → call_at l n ≡ Some called →
    AreTagValues xs (tokens_of is)
    → tokens_of os ≡
    as_it_is l (value called.input ∷ symbol Bar ∷ word called.filter ∷
    arguments (xs ++ called.given))
    → IsStatement l x (pieces.tag w is)
    (shown_call called.input (call_requiring filter (length xs) (xs ++ called.given))) ↔
    IsStatement l x (pieces.output os) (shown_call called.input
    (call_requiring filter (length (xs ++ called.given)) (xs ++ called.given)))

-- where no tag of a host is registered, none is read
abbrev pub NoHostTags : Type 0
NoHostTags = (l : Language) (x : BlockContext) (w : Text) (n : ℕ) → numbers_of l.host_tags ≡ [] →
    role_of l x w ≡ Some (HostTag n) → ⊥

-- `{% w a, b %}` begins a block whose text goes through the call that
-- `{{ v | filter: a, b, given }}` has, with `| raw` after it where the language escapes, and no
-- block where that is no output, but for what is required
abbrev pub HostBlocksAreCalls : Type 0
HostBlocksAreCalls =
    (l : Language) (x : BlockContext) (w : Text) (n : ℕ) (called : BlockCall) (xs : List Expression)
    (v : Expression) (is os : List Item) (filter : Filter)
    → role_of l x w ≡ Some (HostBlock n) → block_at l n ≡ Some called →
    AreTagValues xs (tokens_of is)
    → tokens_of os ≡ as_it_is l (value v ∷ symbol Bar ∷ word called.filter ∷
    arguments (xs ++ called.given))
    → IsStatement l x (pieces.tag w is) (begins (of_one (Host n)
    (through_call (call_requiring filter (length xs) (xs ++ called.given))))) ↔
    IsStatement l x (pieces.output os)
    (shown_call v (call_requiring filter (length (xs ++ called.given)) (xs ++ called.given)))

-- in its body the tag of its end's name ends a host's block, whatever stands in that tag
abbrev pub HostBlocksEnd : Type 0
HostBlocksEnd = (l : Language) (n : ℕ) (is : List Item) →
    IsStatement l (InLast (Host n)) (pieces.tag (end_in l.host_tags n) is) ends

-- where no block of a host is registered, none is read
abbrev pub NoHostBlocks : Type 0
NoHostBlocks = (l : Language) (x : BlockContext) (w : Text) (n : ℕ) → numbers_of l.host_tags ≡ [] →
    role_of l x w ≡ Some (HostBlock n) → ⊥
