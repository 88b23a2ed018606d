-- What reading a filter and its arguments answers.
use Rattle.std.specs.Prelude.{◌≡◌, ◌∷◌, List, Result, Ok, Err, map, Vec}
use Rattle.std.specs.Option.{option_map}
use Rattle.std.specs.declared.alloc.Global.{Global}
use Rattle.liquid_core.specs.ExpressionView.{expression_view}
use Rattle.liquid_core.specs.declared.expression.Expression.{Expression}
use Rattle.liquid_lexer.specs.Readers.{Fails}
use Rattle.liquid_lexer.specs.Tokens.{Token}
use Rattle.liquid_parser.specs.Chains.{Filters}
use Rattle.liquid_parser.specs.ChainReading.{filter_call_after_bar, called_of, filters_of}
use Rattle.liquid_evaluation.specs.ChainView.{chain_filter_view}
use Rattle.liquid_evaluation.specs.declared.chain.ChainFilter.{ChainFilter}
use Rattle.liquid_lexer.specs.declared.fault.ParseError.{ParseError}

-- the arguments after a filter's name, and the tokens that are left
abbrev pub Calls : Filters → List Token → List Token → Result (Vec Expression Global) ParseError →
    Type 0
Calls known old new (Ok xs) = called_of known old ≡
    option_map (λ calls. (map expression_view xs.items, calls)) (filters_of known new)
Calls known old new (Err e) = Fails e (called_of known old)

-- the filter after a `|`: what stands there reads as it and the filters that are left
abbrev pub TakesFilter : Filters → List Token → List Token → Result ChainFilter ParseError → Type 0
TakesFilter known old new (Ok filter) = filter_call_after_bar known old ≡
    option_map (λ calls. chain_filter_view filter ∷ calls) (filters_of known new)
TakesFilter known old new (Err e) = Fails e (filter_call_after_bar known old)
