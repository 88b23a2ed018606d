-- How data differs from what the template needs.
--     doubt_of want path ps      the first doubt about the values at a path in data of these pairs:
--     they aren't there, or one of them isn't as it is wanted
use Rattle.std.specs.Prelude.{ℕ, ◌+◌, ◌==◌, ◌||◌, min, cond, nat_lt, is_some, ℤ, pos, negsuc}
use Rattle.std.specs.Prelude.{Bool, true, false, List, [], ◌∷◌, length, Option, Some, None}
use Rattle.std.specs.Prelude.{bytes_eq, codes}
use Rattle.std.specs.List.{list_any}
use Rattle.liquid_model.specs.Bytes.{is_digit}
use Rattle.liquid_model.specs.Data.{Datum, nil, truth, number, text, array, object, Pairs}
use Rattle.liquid_model.specs.Data.{Items as Listed, item}
use Rattle.liquid_model.specs.Digest.{items_len, pairs_len}
use Rattle.liquid_model.specs.Texts.{Text}
use Rattle.liquid_filters.specs.DateSpelling.{read}
use Rattle.liquid_warnings.specs.DataPaths.{Lacking, lack_of, values_at_path}
use Rattle.liquid_warnings.specs.declared.data_path.DataPath.{DataPath}
use Rattle.liquid_warnings.specs.declared.doubt.Span.{Span}
use Rattle.liquid_warnings.specs.declared.doubt.Want.{Want}
use Rattle.liquid_warnings.specs.declared.doubt.Want.TheVariants.{Present, Perhaps, Date, Items}
use Rattle.liquid_warnings.specs.declared.doubt.Want.TheVariants.{Searched, Contained, Number}
use Rattle.liquid_warnings.specs.declared.doubt.Want.TheVariants.{Tested, Truth}
use Rattle.liquid_warnings.specs.declared.doubt.Want.TheVariants.{NumberWord, TruthWord}
use Rattle.liquid_warnings.specs.declared.doubt.Want.TheVariants.{Defaulted, Keyed, Shown}
use Rattle.liquid_warnings.specs.declared.doubt.Want.TheVariants.{Sized, Word}

-- a map lacks a key; a loop goes over what is no list and no map; it asks for items past the end
-- of a list with this number of them; a text is no date; a text is compared with a number, or with
-- a truth value; what is no text with one; a condition tests what looks false and isn't; what is no
-- number, or no truth value, is compared with one; an output shows a map; a list is asked for a
-- key; a condition tests the number of items or characters; `default` gets `false`; a number is
-- no date
pub data Doubt : Type 0 where
  lacks : Lacking → Doubt
  no_list : Datum → Doubt
  past_end : ℕ → Doubt
  no_date : Text → Doubt
  number_text : Text → Doubt
  truth_text : Text → Doubt
  no_text : Datum → Doubt
  always_true : Datum → Doubt
  no_number : Datum → Doubt
  no_truth : Datum → Doubt
  whole_map : Doubt
  no_key : Doubt
  tested_size : Doubt
  false_default : Doubt
  number_date : Doubt

-- an amount that is asked for of n items: at most all; a negative one is huge
abbrev pub amount_within : ℤ → ℕ → ℕ
amount_within (pos m) n = min m n
amount_within (negsuc m) n = n

-- after the items that are left out more are asked for than there are
abbrev pub passes_end : Option ℤ → Option ℤ → ℕ → Bool
passes_end (Some offset) (Some limit) n = nat_lt n (amount_within offset n + amount_within limit n)
passes_end _ _ n = false

abbrev pub span_doubt : Span → ℕ → Option Doubt
span_doubt s n = cond (passes_end s.offset s.limit n) (Some (past_end n)) None

-- how many items a list or a map has
abbrev pub count_of : Datum → Option ℕ
count_of (array ds) = Some (items_len ds)
count_of (object ps) = Some (pairs_len ps)
count_of _ = None

-- nil has no items
abbrev pub unlisted_doubt : Datum → Option Doubt
unlisted_doubt nil = None
unlisted_doubt d = Some (no_list d)

abbrev pub counted_doubt : Span → Datum → Option ℕ → Option Doubt
counted_doubt s d (Some n) = span_doubt s n
counted_doubt s d None = unlisted_doubt d

-- of what a loop goes over
abbrev pub items_doubt : Span → Datum → Option Doubt
items_doubt s d = counted_doubt s d (count_of d)

-- the empty text is printed as it is
abbrev pub is_empty_or_date : Text → Bool
is_empty_or_date s = (length s == 0) || is_some (read s)

-- of what is printed as a date
abbrev pub date_doubt : Datum → Option Doubt
date_doubt (text s) = cond (is_empty_or_date s) None (Some (no_date s))
date_doubt (number z) = Some number_date
date_doubt d = None

abbrev pub has_digit : Text → Bool
has_digit s = list_any (λ b. is_digit b []) s

-- of what is compared with a number
abbrev pub number_doubt : Datum → Option Doubt
number_doubt (text s) = cond (has_digit s) (Some (number_text s)) None
number_doubt (truth b) = Some (no_number (truth b))
number_doubt (array ds) = Some (no_number (array ds))
number_doubt (object ps) = Some (no_number (object ps))
number_doubt d = None

-- of what is compared with a truth value
abbrev pub truth_doubt : Datum → Option Doubt
truth_doubt (text s) = Some (truth_text s)
truth_doubt (number z) = Some (no_truth (number z))
truth_doubt d = None

-- of what is compared with any text
abbrev pub word_doubt : Datum → Option Doubt
word_doubt (array ds) = Some (no_text (array ds))
word_doubt (object ps) = Some (no_text (object ps))
word_doubt d = None

-- of what is compared with a text that spells a number
abbrev pub number_word_doubt : Datum → Option Doubt
number_word_doubt (number z) = Some (no_text (number z))
number_word_doubt d = word_doubt d

-- of what is compared with a text that spells a truth value
abbrev pub truth_word_doubt : Datum → Option Doubt
truth_word_doubt (truth b) = Some (no_text (truth b))
truth_word_doubt d = word_doubt d

-- nothing, 0, or a word that says no
abbrev pub says_no : Text → Bool
says_no s = bytes_eq s (codes "") || (bytes_eq s (codes "0") || (bytes_eq s (codes "n")
    || (bytes_eq s (codes "N") || (bytes_eq s (codes "no") || (bytes_eq s (codes "No")
    || (bytes_eq s (codes "NO") || (bytes_eq s (codes "false") || (bytes_eq s (codes "False")
    || (bytes_eq s (codes "FALSE") || bytes_eq s (codes "off"))))))))))

abbrev pub is_number_zero : ℤ → Bool
is_number_zero (pos m) = m == 0
is_number_zero (negsuc m) = false

abbrev pub is_zero_of : Option ℕ → Bool
is_zero_of (Some n) = n == 0
is_zero_of None = false

-- it is empty, 0, or a word that says no, and holds in a condition
abbrev pub looks_false : Datum → Bool
looks_false (text s) = says_no s
looks_false (number z) = is_number_zero z
looks_false d = is_zero_of (count_of d)

-- of what a condition tests
abbrev pub tested_doubt : Datum → Option Doubt
tested_doubt d = cond (looks_false d) (Some (always_true d)) None

abbrev pub begins_with_map : Listed → Bool
begins_with_map (item (object ps) ds) = true
begins_with_map ds = false

-- of what an output shows as it is
abbrev pub shown_doubt : Datum → Option Doubt
shown_doubt (object ps) = Some whole_map
shown_doubt (array ds) = cond (begins_with_map ds) (Some whole_map) None
shown_doubt d = None

-- of what is asked for a key other than `size`, `first` and `last`
abbrev pub keyed_doubt : Datum → Option Doubt
keyed_doubt (array ds) = Some no_key
keyed_doubt d = None

-- of what `default` gets
abbrev pub defaulted_doubt : Datum → Option Doubt
defaulted_doubt (truth false) = Some false_default
defaulted_doubt d = None

-- of what a condition tests the `size` of
abbrev pub sized_doubt : Datum → Option Doubt
sized_doubt (array ds) = Some tested_size
sized_doubt (text s) = Some tested_size
sized_doubt d = None

abbrev pub value_doubt : Want → Datum → Option Doubt
value_doubt Present d = None
value_doubt Perhaps d = None
value_doubt Searched d = None
value_doubt Contained d = None
value_doubt Date d = date_doubt d
value_doubt Number d = number_doubt d
value_doubt Truth d = truth_doubt d
value_doubt NumberWord d = number_word_doubt d
value_doubt TruthWord d = truth_word_doubt d
value_doubt Tested d = tested_doubt d
value_doubt Shown d = shown_doubt d
value_doubt Word d = word_doubt d
value_doubt Defaulted d = defaulted_doubt d
value_doubt Keyed d = keyed_doubt d
value_doubt Sized d = sized_doubt d
value_doubt (Items s) d = items_doubt s d

abbrev pub or_next : Option Doubt → Option Doubt → Option Doubt
or_next (Some x) next = Some x
or_next None next = next

abbrev pub first_doubt : Want → List Datum → Option Doubt
first_doubt w [] = None
first_doubt w (d ∷ ds) = or_next (value_doubt w d) (first_doubt w ds)

abbrev pub lack_or : Option Lacking → Option Doubt → Option Doubt
lack_or (Some l) other = Some (lacks l)
lack_or None other = other

-- whether more is wanted than that they are there
abbrev pub asks_values : Want → Bool
asks_values Present = false
asks_values Perhaps = false
asks_values Searched = false
asks_values Contained = false
asks_values Date = true
asks_values Number = true
asks_values Truth = true
asks_values NumberWord = true
asks_values TruthWord = true
asks_values Tested = true
asks_values Shown = true
asks_values Word = true
asks_values Defaulted = true
asks_values Keyed = true
asks_values Sized = true
asks_values (Items s) = true

abbrev pub doubt_of : Want → DataPath → Pairs → Option Doubt
doubt_of w p ps =
    lack_or (lack_of p ps) (cond (asks_values w) (first_doubt w (values_at_path p ps)) None)
