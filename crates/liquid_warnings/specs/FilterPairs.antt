-- Filters of which one spoils what the one before it made, or changes nothing after it.
--     first_pair before filters      the first pair of a filter and the next one, where `before`
--                                    stands before these
--     pair_said position node      what is said of an output or an `assign`
use Rattle.std.specs.Prelude.{Bool, true, false, cond, ◌||◌, ◌&&◌, List, [], ◌∷◌, ◌++◌, not}
use Rattle.std.specs.Prelude.{◌==◌, length, Option, Some, None, bytes_eq, codes}
use Rattle.std.specs.Option.{option_or}
use Rattle.liquid_evaluation.specs.StoredFilters.{stored_name}
use Rattle.liquid_evaluation.specs.declared.chain.ChainFilter.{ChainFilter}
use Rattle.liquid_evaluation.specs.declared.chain.FilterChain.{FilterChain}
use Rattle.liquid_model.specs.Texts.{Text}
use Rattle.liquid_syntax.specs.declared.node.Node.{Node}
use Rattle.liquid_syntax.specs.declared.positions.Position.{Position}
use Rattle.liquid_warnings.specs.Nodes.{first_text, printed_chain}
use Rattle.liquid_warnings.specs.Remarks.{Said, warning}

abbrev pub is_escape : Text → Bool
is_escape s = bytes_eq s (codes "escape") || bytes_eq s (codes "xml_escape")

-- what the second shows as text: what the first escaped, or the tags that it wrote
abbrev pub escapes_again : Text → Text → Bool
escapes_again s t = (is_escape s || bytes_eq s (codes "newline_to_br")) && is_escape t

abbrev pub adds_text : Text → Bool
adds_text s = bytes_eq s (codes "append") || bytes_eq s (codes "prepend")

abbrev pub is_any_text : Option Text → Bool
is_any_text None = false
is_any_text (Some s) = not (length s == 0)

-- it never makes nil, `false` or an empty text
abbrev pub is_never_empty : ChainFilter → Bool
is_never_empty f = bytes_eq (stored_name f.filter) (codes "size")
    || (adds_text (stored_name f.filter) && is_any_text (first_text f.arguments.items))

abbrev pub is_late_default : ChainFilter → ChainFilter → Bool
is_late_default f g = bytes_eq (stored_name g.filter) (codes "default") && is_never_empty f

-- how a filter and the next one go wrong, and the name of the first
abbrev pub filter_pair : ChainFilter → ChainFilter → Option (Bool × Text)
filter_pair f g = cond (escapes_again (stored_name f.filter) (stored_name g.filter))
    (Some (true, stored_name f.filter))
    (cond (is_late_default f g) (Some (false, stored_name f.filter)) None)

abbrev pub pair_after : Option ChainFilter → ChainFilter → Option (Bool × Text)
pair_after None g = None
pair_after (Some f) g = filter_pair f g

abbrev pub first_pair : Option ChainFilter → List ChainFilter → Option (Bool × Text)
first_pair before [] = None
first_pair before (f ∷ fs) = option_or (pair_after before f) (first_pair (Some f) fs)

abbrev pub chain_pair : Option FilterChain → Option (Bool × Text)
chain_pair None = None
chain_pair (Some chain) = first_pair None chain.filters.items

abbrev pub again_message : Text → Text
again_message name = codes "what `" ++ (name
    ++ codes "` wrote is escaped here, and shows as text; write one `escape`, and before it")

abbrev pub late_message : Text → Text
late_message name = codes "`" ++ (name
    ++ codes "` never leaves nothing, so the `default` after it is never used; write it before")

abbrev pub said_of_pair : Position → Bool → Text → Said
said_of_pair position true name = warning position (codes "EscapedAgain") (again_message name)
said_of_pair position false name = warning position (codes "LateDefault") (late_message name)

abbrev pub pair_found : Position → Option (Bool × Text) → Option Said
pair_found position None = None
pair_found position (Some p) = Some (said_of_pair position p.0 p.1)

abbrev pub pair_said : Position → Node → Option Said
pair_said position node = pair_found position (chain_pair (printed_chain node))
