-- Reading a chain from tokens, one after another.
use Rattle.std.specs.Prelude.{List, [], ◌∷◌, length, cond, Option, Some, None}
use Rattle.std.specs.Option.{option_and_then, option_map}
use Rattle.liquid_model.specs.Texts.{Text}
use Rattle.liquid_model.specs.Maps.{listed}
use Rattle.liquid_core.specs.Expression.{Expression}
use Rattle.liquid_evaluation.specs.Tree.{FilterCall, Chain}
use Rattle.liquid_lexer.specs.Tokens.{Token, if_value, word_of, is_symbol}
use Rattle.liquid_parser.specs.Chains.{Filters, called_as}
use Rattle.liquid_language.specs.Registered.{registered_counts}
use Rattle.liquid_language.specs.declared.registered_filter.RegisteredFilter.{RegisteredFilter}
use Rattle.liquid_lexer.specs.declared.fault.FaultKind.{FaultKind}
use Rattle.liquid_lexer.specs.declared.fault.FaultKind.TheVariants.{UnknownFilter, FilterArguments}
use Rattle.liquid_lexer.specs.declared.symbol.Symbol.TheVariants.{Colon, Comma, Bar}

-- arguments, and the filters after them
abbrev pub Called : Type 0
Called = List Expression × List FilterCall

-- the name with these arguments, where it is registered and may be given their number
abbrev pub accepted_call : Text → Option RegisteredFilter → List Expression → Option FilterCall
accepted_call name None xs = None
accepted_call name (Some filter) xs = cond (registered_counts filter (length xs)) (Some (record {
  filter = called_as name filter;
  arguments = xs;
  required = length xs;
})) None

-- why a call isn't accepted: no filter is registered, or it takes another number of arguments
abbrev pub call_fault : Option RegisteredFilter → FaultKind
call_fault None = UnknownFilter
call_fault (Some filter) = FilterArguments

abbrev pub no_arguments : Option (List FilterCall) → Option Called
no_arguments o = option_map (λ calls. ([], calls)) o

abbrev pub one_argument : Expression → Option Called → Option Called
one_argument x o = option_map (λ c. (x ∷ c.0, c.1)) o

module _ (known : Filters) where
  abbrev pub call_with : Text → Called → Option (List FilterCall)
  call_with name c = option_map (λ call. call ∷ c.1) (accepted_call name (listed known name) c.0)

  -- each eats one token, and answers what all that is left gives
  unfoldable mutual
    -- filters, up to the end
    pub filters_of : List Token → Option (List FilterCall)
    filters_of [] = Some []
    filters_of (t ∷ ts) = cond (is_symbol Bar t) (filter_call_after_bar ts) None

    -- after a `|`
    pub filter_call_after_bar : List Token → Option (List FilterCall)
    filter_call_after_bar [] = None
    filter_call_after_bar (t ∷ ts) = option_and_then (λ name.
        option_and_then (call_with name) (called_of ts))
        (word_of t)

    -- after a filter's name
    pub called_of : List Token → Option Called
    called_of [] = Some ([], [])
    called_of (t ∷ ts) =
        cond (is_symbol Colon t) (arguments_of ts)
        (no_arguments (cond (is_symbol Bar t) (filter_call_after_bar ts) None))

    -- after a `:` or a `,`
    pub arguments_of : List Token → Option Called
    arguments_of [] = None
    arguments_of (t ∷ ts) = if_value t (λ x. one_argument x (further_of ts))

    -- after an argument
    pub further_of : List Token → Option Called
    further_of [] = Some ([], [])
    further_of (t ∷ ts) =
        cond (is_symbol Comma t) (arguments_of ts)
        (no_arguments (cond (is_symbol Bar t) (filter_call_after_bar ts) None))

  unfoldable pub chain_of : List Token → Option Chain
  chain_of [] = None
  chain_of (t ∷ ts) = if_value t (λ x. option_map (λ calls. record {
    entry = x;
    filters = calls;
  }) (filters_of ts))
