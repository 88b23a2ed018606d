-- What it is to take `| raw` off the end.
use Rattle.std.specs.Prelude.{◌≡◌, Bool, true, false, List, Some, None}
use Rattle.liquid_lexer.specs.Tokens.{tokens_view}
use Rattle.liquid_lexer.specs.declared.fault.ParseError.{ParseError}
use Rattle.liquid_lexer.specs.declared.fault.ParseError.TheVariants as errors
use Rattle.liquid_lexer.specs.declared.item.Item.{Item}
use Rattle.liquid_parser.specs.Outputs.{before_raw}

-- whether `| raw` was taken off the end
abbrev pub SkipsRaw : List Item → List Item → Bool → Type 0
SkipsRaw old new true = before_raw (tokens_view old) ≡ Some (tokens_view new)
SkipsRaw old new false = (before_raw (tokens_view old) ≡ None) × (new ≡ old)

-- the same kind of fault at the same place, or memory ran out in both
abbrev pub IsSameFault : ParseError → ParseError → Type 0
IsSameFault errors.Memory e = e ≡ errors.Memory
IsSameFault (errors.Fault f) errors.Memory = ⊥
IsSameFault (errors.Fault f) (errors.Fault g) = (g.kind ≡ f.kind) × (g.remaining ≡ f.remaining)
