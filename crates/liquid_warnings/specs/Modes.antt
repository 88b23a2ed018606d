-- Modes of `slugify` that there aren't.
--     unknown_mode position node      of an output or an `assign`: the first of its filters that is
--       `slugify` with a text in the template as its mode, which is none
--     is_mode s      a mode of Jekyll's `slugify`
use Rattle.std.specs.Prelude.{Bool, cond, ◌||◌, List, [], ◌∷◌, ◌++◌, Option, Some, None}
use Rattle.std.specs.Prelude.{bytes_eq, codes}
use Rattle.std.specs.Option.{option_or}
use Rattle.liquid_model.specs.Quotes.{quotation}
use Rattle.liquid_model.specs.Texts.{Text}
use Rattle.liquid_core.specs.declared.expression.Expression.{Expression}
use Rattle.liquid_evaluation.specs.StoredFilters.{stored_name}
use Rattle.liquid_evaluation.specs.declared.chain.ChainFilter.{ChainFilter}
use Rattle.liquid_evaluation.specs.declared.chain.FilterChain.{FilterChain}
use Rattle.liquid_syntax.specs.declared.node.Node.{Node}
use Rattle.liquid_syntax.specs.declared.positions.Position.{Position}
use Rattle.liquid_warnings.specs.Calls.{name_in_literal}
use Rattle.liquid_warnings.specs.Nodes.{printed_chain}
use Rattle.liquid_warnings.specs.Remarks.{Said, warning}

-- `latin` is one that a run refuses
abbrev pub is_mode : Text → Bool
is_mode s = bytes_eq s (codes "none") || bytes_eq s (codes "raw") || bytes_eq s (codes "default")
    || bytes_eq s (codes "pretty") || bytes_eq s (codes "ascii") || bytes_eq s (codes "latin")

abbrev pub mode_message : Text → Text
mode_message s = codes "`slugify` has no mode `" ++ (quotation s
    ++ codes "`: here `default`, in Jekyll `none`; write the one you mean")

-- the text that the first argument is
abbrev pub first_text : List Expression → Option Text
first_text [] = None
first_text (x ∷ xs) = name_in_literal x

abbrev pub no_mode : Option Text → Option Text
no_mode None = None
no_mode (Some s) = cond (is_mode s) None (Some s)

abbrev pub filter_mode : ChainFilter → Option Text
filter_mode f = cond (bytes_eq (stored_name f.filter) (codes "slugify"))
    (no_mode (first_text f.arguments.items)) None

-- the first that is none
abbrev pub first_mode : List ChainFilter → Option Text
first_mode [] = None
first_mode (f ∷ fs) = option_or (filter_mode f) (first_mode fs)

abbrev pub chain_mode : Option FilterChain → Option Text
chain_mode None = None
chain_mode (Some chain) = first_mode chain.filters.items

abbrev pub mode_said : Position → Option Text → Option Said
mode_said position None = None
mode_said position (Some s) = Some (warning position (codes "UnknownMode") (mode_message s))

abbrev pub unknown_mode : Position → Node → Option Said
unknown_mode position node = mode_said position (chain_mode (printed_chain node))
