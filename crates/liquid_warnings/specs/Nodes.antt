-- What warnings say of single tags and outputs.
--     no_list position node      of a loop over a literal that is no list and no map
--     no_clock position node      of a literal for the present time that is printed as a date
--     no_pattern position node      of a pattern of dates without a `%`
--     sure_said position node      of a condition over a literal
use Rattle.std.specs.Prelude.{◌==◌, ◌&&◌, not, length, Bool, true, false, cond, List, [], ◌∷◌}
use Rattle.std.specs.Prelude.{Option, Some, None}
use Rattle.std.specs.Prelude.{bytes_eq, codes}
use Rattle.std.specs.Prelude.{Vec}
use Rattle.std.specs.List.{list_any}
use Rattle.std.specs.declared.alloc.Global.{Global}
use Rattle.liquid_model.specs.Data.{Datum, nil, number, text}
use Rattle.liquid_model.specs.Texts.{Text}
use Rattle.liquid_core.specs.ExpressionView.{expression_view}
use Rattle.liquid_core.specs.declared.expression.Expression.{Expression}
use Rattle.liquid_evaluation.specs.StoredFilters.{stored_name}
use Rattle.liquid_evaluation.specs.declared.chain.ChainFilter.{ChainFilter}
use Rattle.liquid_evaluation.specs.declared.condition.Atom.{Atom}
use Rattle.liquid_evaluation.specs.declared.condition.Atom.TheVariants.{Bare}
use Rattle.liquid_evaluation.specs.declared.condition.Condition.{Condition}
use Rattle.liquid_evaluation.specs.declared.chain.FilterChain.{FilterChain}
use Rattle.liquid_evaluation.specs.declared.range_expression.RangeExpression.{RangeExpression}
use Rattle.liquid_evaluation.specs.declared.range_expression.RangeExpression.TheVariants.{Array}
use Rattle.liquid_syntax.specs.declared.node.Node.{Node}
use Rattle.liquid_syntax.specs.declared.node.Node.TheVariants.{Assign, For, If, Output, TableRow}
use Rattle.liquid_syntax.specs.declared.node.Node.TheVariants.{Unless}
use Rattle.liquid_syntax.specs.declared.positions.Position.{Position}
use Rattle.liquid_warnings.specs.Literals.{literal_of, text_found}
use Rattle.liquid_warnings.specs.Messages.{clock_message, kind_word, pattern_message, sure_message}
use Rattle.liquid_warnings.specs.Messages.{value_message}
use Rattle.liquid_warnings.specs.Remarks.{Said, warning}

-- ---- loops

-- what a loop goes over
abbrev pub looped : Node → Option RangeExpression
looped (For head bodies) = Some head.value.source
looped (TableRow head end) = Some head.value.source
looped _ = None

abbrev pub source_literal : RangeExpression → Option Datum
source_literal (Array x) = literal_of (expression_view x)
source_literal _ = None

abbrev pub literal_found : Option RangeExpression → Option Datum
literal_found None = None
literal_found (Some source) = source_literal source

-- nil is a list without items
abbrev pub unlisted : Position → Datum → Option Said
unlisted position nil = None
unlisted position d = Some (warning position (codes "NoList")
    (value_message (codes "this") (kind_word d)))

abbrev pub unlisted_found : Position → Option Datum → Option Said
unlisted_found position None = None
unlisted_found position (Some d) = unlisted position d

abbrev pub no_list : Position → Node → Option Said
no_list position node = unlisted_found position (literal_found (looped node))

-- ---- dates

abbrev pub printed_chain : Node → Option FilterChain
printed_chain (Output chain) = Some chain
printed_chain (Assign name chain) = Some chain
printed_chain _ = None

-- its first filter is `date`
abbrev pub is_dated : List ChainFilter → Bool
is_dated [] = false
is_dated (f ∷ fs) = bytes_eq (stored_name f.filter) (codes "date")

abbrev pub clock_word : Text → Option Text
clock_word s = cond (bytes_eq s (codes "now")) (Some (codes "now"))
    (cond (bytes_eq s (codes "today")) (Some (codes "today")) None)

abbrev pub clock_word_found : Option Text → Option Text
clock_word_found None = None
clock_word_found (Some s) = clock_word s

-- the word for the present time that a chain prints as a date
abbrev pub dated_word : FilterChain → Option Text
dated_word chain =
    cond (is_dated chain.filters.items)
    (clock_word_found (text_found (literal_of (expression_view chain.entry)))) None

abbrev pub dated_word_found : Option FilterChain → Option Text
dated_word_found None = None
dated_word_found (Some chain) = dated_word chain

abbrev pub clock_said : Position → Option Text → Option Said
clock_said position None = None
clock_said position (Some word) = Some (warning position (codes "NoClock") (clock_message word))

abbrev pub no_clock : Position → Node → Option Said
no_clock position node = clock_said position (dated_word_found (printed_chain node))

-- ---- patterns of dates

abbrev pub first_text : List Expression → Option Text
first_text [] = None
first_text (x ∷ xs) = text_found (literal_of (expression_view x))

-- the literal pattern of a first filter `date`
abbrev pub date_pattern_of : List ChainFilter → Option Text
date_pattern_of [] = None
date_pattern_of (f ∷ fs) = cond (is_dated (f ∷ fs)) (first_text f.arguments.items) None

abbrev pub pattern_found : Option FilterChain → Option Text
pattern_found None = None
pattern_found (Some chain) = date_pattern_of chain.filters.items

abbrev pub has_percent : Text → Bool
has_percent s = list_any (λ b. b == 37) s

abbrev pub is_no_pattern : Text → Bool
is_no_pattern s = not (length s == 0) && not (has_percent s)

abbrev pub pattern_said : Position → Option Text → Option Said
pattern_said position None = None
pattern_said position (Some s) = cond (is_no_pattern s)
    (Some (warning position (codes "NoPattern") (pattern_message s))) None

abbrev pub no_pattern : Position → Node → Option Said
no_pattern position node = pattern_said position (pattern_found (printed_chain node))

-- ---- conditions

abbrev pub tested : Node → Option Condition
tested (If c ends) = Some c
tested (Unless c ends) = Some c
tested _ = None

-- a literal that is always true
abbrev pub is_sure_value : Option Datum → Bool
is_sure_value (Some (text s)) = true
is_sure_value (Some (number z)) = true
is_sure_value _ = false

abbrev pub is_sure_atom : Atom → Bool
is_sure_atom (Bare x) = is_sure_value (literal_of (expression_view x))
is_sure_atom _ = false

abbrev pub has_sure_atom : Vec Atom Global → Bool
has_sure_atom atoms = list_any is_sure_atom atoms.items

abbrev pub sure_found : Option Condition → Bool
sure_found None = false
sure_found (Some c) = list_any has_sure_atom c.conjunctions.items

abbrev pub sure_said : Position → Node → Option Said
sure_said position node = cond (sure_found (tested node))
    (Some (warning position (codes "AlwaysTrue") sure_message)) None
