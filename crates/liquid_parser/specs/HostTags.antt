-- Tags and blocks of a host: the call that one stands for, how it is written, and how it is read.
use Rattle.std.specs.Prelude.{◌≡◌, ℕ, Bool, true, false, List, [], ◌∷◌, ◌++◌, length, IsTrue}
use Rattle.std.specs.Prelude.{Option, Some}
use Rattle.std.specs.Option.{option_and_then, option_map}
use Rattle.liquid_model.specs.Maps.{listed}
use Rattle.liquid_model.specs.Texts.{Text}
use Rattle.liquid_core.specs.Expression.{Expression}
use Rattle.liquid_evaluation.specs.Tree.{Chain, Filter, FilterCall, Node, Nodes, filtered, output}
use Rattle.liquid_lexer.specs.Tokens.{Token}
use Rattle.liquid_language.specs.HostTags.{BlockCall, TagCall, block_at, call_at}
use Rattle.liquid_language.specs.Registered.{registered_counts, registered_in}
use Rattle.liquid_language.specs.declared.block.Block.TheVariants.{Host}
use Rattle.liquid_language.specs.declared.block.BlockContext.{BlockContext}
use Rattle.liquid_language.specs.declared.block.BlockContext.TheVariants.{InBody, InLast}
use Rattle.liquid_language.specs.declared.registered_filter.RegisteredFilter.{RegisteredFilter}
use Rattle.liquid_language.specs.declared.registry.Language.{Language}
use Rattle.liquid_parser.specs.ChainReading.{accepted_call}
use Rattle.liquid_parser.specs.Chains.{Filters, called_as}
use Rattle.liquid_parser.specs.ValueLists.{AreValues, any_values_of}
use Rattle.liquid_parser.specs.declared.value_items.Separators.TheVariants.{OptionalCommas}

-- ---- the grammar

-- no values, or some with a `,` or nothing between each two
pub data AreTagValues : List Expression → List Token → Type 0 where
  no_values : AreTagValues [] []
  tag_values : {xs : List Expression} {ts : List Token} → AreValues OptionalCommas xs ts →
      AreTagValues xs ts

-- a call of which the first n arguments are required
abbrev pub call_requiring : Filter → ℕ → List Expression → FilterCall
call_requiring filter n xs = record { filter = filter; arguments = xs; required = n }

-- the filter of the name is registered, and may be given that number of arguments: the values of
-- the tag, which are required, and those that are given with it, which are nil where they are
-- missing
pub data IsHostCall (known : Filters) (name : Text) (given : List Expression) :
    FilterCall → List Token → Type 0 where
  host_call : {filter : RegisteredFilter} {xs : List Expression} {ts : List Token}
      → listed known name ≡ Some filter →
      IsTrue (registered_counts filter (length (xs ++ given))) → AreTagValues xs ts
      → IsHostCall known name given
      (call_requiring (called_as name filter) (length xs) (xs ++ given)) ts

-- the input goes through one call of the filter
abbrev pub chain_of_call : TagCall → FilterCall → Chain
chain_of_call called call = record { entry = called.input; filters = call ∷ [] }

pub data IsHostChain (known : Filters) (called : TagCall) : Chain → List Token → Type 0 where
  host_chain : {call : FilterCall} {ts : List Token} →
      IsHostCall known called.filter called.given call ts →
      IsHostChain known called (chain_of_call called call) ts

-- the innermost block is one of the host
abbrev pub in_host : BlockContext → Bool
in_host (InBody (Host n)) = true
in_host (InLast (Host n)) = true
in_host _ = false

-- ---- reading

-- the call, of which only the first n arguments are required
abbrev pub requiring : ℕ → FilterCall → FilterCall
requiring n call = call_requiring call.filter n call.arguments

-- the call where the tag has the values xs
abbrev pub call_given : Filters → Text → List Expression → List Expression → Option FilterCall
call_given known name given xs =
    option_map (requiring (length xs)) (accepted_call name (listed known name) (xs ++ given))

abbrev pub host_call_of : Filters → Text → List Expression → List Token → Option FilterCall
host_call_of known name given ts =
    option_and_then (call_given known name given) (any_values_of OptionalCommas ts)

abbrev pub host_chain_of : Filters → TagCall → List Token → Option Chain
host_chain_of known called ts =
    option_map (chain_of_call called) (host_call_of known called.filter called.given ts)

-- the tag with the number is an output
abbrev pub host_tag_of : Language → ℕ → List Token → Option Node
host_tag_of l n ts = option_and_then
    (λ called. option_map output (host_chain_of (registered_in l.filters) called ts)) (call_at l n)

-- the node of a block whose text goes through one call
abbrev pub through_call : FilterCall → Nodes → Node
through_call call f = filtered (call ∷ []) f

-- the node that the block with the number makes of its body
abbrev pub host_block_of : Language → ℕ → List Token → Option (Nodes → Node)
host_block_of l n ts = option_and_then
    (λ (called : BlockCall). option_map through_call
    (host_call_of (registered_in l.filters) called.filter called.given ts)) (block_at l n)
