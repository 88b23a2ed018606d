-- Which warnings are about what a page shows silently.
use Rattle.std.specs.Prelude.{ℕ, ◌||◌, Bool, true, false, not, cond, List, [], ◌∷◌, bytes_eq}
use Rattle.std.specs.Prelude.{◌&&◌, ◌-◌, ◌==◌, codes, length, nat_eq, nat_lt, slice_index}
use Rattle.std.specs.Option.{option_map_or}
use Rattle.liquid_core.specs.declared.missing_value.Missing.{Missing}
use Rattle.liquid_core.specs.declared.missing_value.Missing.TheVariants.{IsFault, IsNil}
use Rattle.liquid_evaluation.specs.StoredFilters.{stored_name}
use Rattle.liquid_evaluation.specs.declared.chain.ChainFilter.{ChainFilter}
use Rattle.liquid_model.specs.Texts.{Text}
use Rattle.liquid_syntax.specs.declared.node.Node.{Node}
use Rattle.liquid_syntax.specs.declared.node.Node.TheVariants.{Filtered}
use Rattle.liquid_syntax.specs.declared.positions.Position.{Position}
use Rattle.liquid_warnings.specs.Nodes.{printed_chain}
use Rattle.liquid_warnings.specs.Remarks.{Said}

-- what is read otherwise than it looks
abbrev pub is_misread : Text → Bool
is_misread kind = bytes_eq kind (codes "ElseIf") || (bytes_eq kind (codes "NoClock")
    || (bytes_eq kind (codes "NoColours") || (bytes_eq kind (codes "NoPattern")
    || (bytes_eq kind (codes "NoDate") || (bytes_eq kind (codes "TextNumber")
    || (bytes_eq kind (codes "TextTruth") || (bytes_eq kind (codes "NoText")
    || bytes_eq kind (codes "AlwaysTrue"))))))))

-- what does nothing, or something else than it looks, in any data
abbrev pub is_odd : Text → Bool
is_odd kind = bytes_eq kind (codes "UnknownPart") || (bytes_eq kind (codes "NoEscape")
    || (bytes_eq kind (codes "EscapedAgain") || (bytes_eq kind (codes "LateDefault")
    || (bytes_eq kind (codes "DownRange") || (bytes_eq kind (codes "FixedTest")
    || (bytes_eq kind (codes "TagAsOutput") || (bytes_eq kind (codes "AndOr")
    || (bytes_eq kind (codes "StrayBreak") || (bytes_eq kind (codes "FrontMatter")
    || (bytes_eq kind (codes "ForeignOutput")
    || bytes_eq kind (codes "QuotedName")))))))))))

-- a name that is set and not read, or read where it isn't set
abbrev pub is_unread_name : Text → Bool
is_unread_name kind = bytes_eq kind (codes "UnusedVariable") || (bytes_eq kind (codes "UnusedPair")
    || bytes_eq kind (codes "NotGiven"))

-- a value of another shape than it is taken for
abbrev pub is_misshapen : Text → Bool
is_misshapen kind = bytes_eq kind (codes "NoNumber") || (bytes_eq kind (codes "NoTruth")
    || (bytes_eq kind (codes "WholeMap") || (bytes_eq kind (codes "NoKey")
    || (bytes_eq kind (codes "FalseDefault") || bytes_eq kind (codes "NumberDate")))))

-- a mistake whatever becomes of a missing value
abbrev pub is_of_template : Text → Bool
is_of_template kind = is_misread kind || (is_odd kind || (is_unread_name kind || is_misshapen kind))

-- what the data lacks
abbrev pub is_lack : Text → Bool
is_lack kind = bytes_eq kind (codes "UnknownName") || bytes_eq kind (codes "UnknownPath")

-- its last sign asks whether a similar name is meant
abbrev pub has_similar : Text → Bool
has_similar s = nat_lt 0 (length s) && (slice_index s (length s - 1) == 63)

-- a filter gets the value, other than the one that stands in for nil
abbrev pub is_filtered : List ChainFilter → Bool
is_filtered [] = false
is_filtered (f ∷ fs) = not (bytes_eq (stored_name f.filter) (codes "default"))

-- a filter gets the value of an output or an `assign`
abbrev pub is_filtered_node : Node → Bool
is_filtered_node n = option_map_or (λ c. is_filtered c.filters.items) (printed_chain n) false

-- what the node writes goes through filters
abbrev pub is_through : Node → Bool
is_through (Filtered filters end) = true
is_through _ = false

-- the node stands at this line and column, and isn't one around an output that begins there
abbrev pub stands_at : ℕ → ℕ → Node → Position → Bool
stands_at line column n p =
    not (is_through n) && (nat_eq p.line line && nat_eq p.column column)

-- a filter gets the value of the first such node
unfoldable pub is_filtered_at : ℕ → ℕ → List Node → List Position → Bool
is_filtered_at line column (n ∷ ns) (p ∷ ps) =
    cond (stands_at line column n p) (is_filtered_node n) (is_filtered_at line column ns ps)
is_filtered_at line column ns ps = false

abbrev pub is_fault : Missing → Bool
is_fault IsFault = true
is_fault IsNil = false

-- the warning is about what a page shows silently; what the data lacks is that only where it is a
-- fault without a filter
abbrev pub is_shown_silently : Missing → Said → List Node → List Position → Bool
is_shown_silently missing said ns ps = is_of_template said.kind || (is_lack said.kind
    && (is_fault missing && (has_similar said.message
    || is_filtered_at said.line said.column ns ps)))
