-- What chains, conditions and loop sources are in an environment: a value, or a kind.
--     chain_value      a chain's value;   truth_of      a condition's
--     source_items, window_items      the items of a loop's source; those of them that are asked
--                                     for
use Rattle.std.specs.Prelude.{ℕ, zero, suc, ◌-◌, min, ℤ, pos, negsuc, ◌+ℤ◌, ◌-ℤ◌, nat_abs, int_le}
use Rattle.std.specs.Prelude.{nat_le, nat_eq, Bool, true, false, cond, not, ◌&&◌, ◌||◌, List, []}
use Rattle.std.specs.Prelude.{◌∷◌, length, map, reverse, get_or, Option, Some, None, Result, Ok}
use Rattle.std.specs.Prelude.{Err, is_some}
use Rattle.std.specs.declared.cmp.Ordering.{Ordering}
use Rattle.std.specs.Ordering.{is_lt, is_gt, is_le, is_ge}
use Rattle.std.specs.List.{starts_with, list_any}
use Rattle.liquid_model.specs.Texts.{Text}
use Rattle.liquid_model.specs.Data.{Datum, Pairs, nil, number, array, object, text_of, truthy}
use Rattle.liquid_model.specs.Data.{no_items}
use Rattle.liquid_model.specs.Data.{scalar}
use Rattle.liquid_model.specs.Lists.{list_of, pair_lists}
use Rattle.liquid_model.specs.Order.{same}
use Rattle.liquid_model.specs.Compare.{compare}
use Rattle.liquid_model.specs.Find.{value_at}
use Rattle.liquid_model.specs.declared.error.ErrorKind.{ErrorKind}
use Rattle.liquid_model.specs.declared.error.ErrorKind.TheVariants.{UnexpectedValue, RangeTooLong}
use Rattle.liquid_model.specs.declared.error.ErrorKind.TheVariants.{InvalidInput}
use Rattle.liquid_model.specs.Fallible.{◌>>=◌}
use Rattle.liquid_core.specs.Expression.{Expression}
use Rattle.liquid_core.specs.Environment.{Environment}
use Rattle.liquid_core.specs.Expressions.{value_of, forgiven, if_missing, required, sought}
use Rattle.liquid_core.specs.Expressions.{sought_whole, needed_whole}
use Rattle.liquid_core.specs.declared.missing_value.Missing.{Missing}
use Rattle.liquid_core.specs.declared.missing_value.Missing.TheVariants.{IsFault, IsNil}
use Rattle.liquid_model.specs.FilterAnswers.{FilterAnswer}
use Rattle.liquid_filters.specs.Kinds.{kind_answer}
use Rattle.liquid_evaluation.specs.declared.comparison.ComparisonOperator.{ComparisonOperator}
use Rattle.liquid_evaluation.specs.declared.comparison.ComparisonOperator.TheVariants.{Equals}
use Rattle.liquid_evaluation.specs.declared.comparison.ComparisonOperator.TheVariants.{NotEquals}
use Rattle.liquid_evaluation.specs.declared.comparison.ComparisonOperator.TheVariants.{LessThan}
use Rattle.liquid_evaluation.specs.declared.comparison.ComparisonOperator.TheVariants.{GreaterThan}
use Rattle.liquid_evaluation.specs.declared.comparison.ComparisonOperator.TheVariants.{LessThanEquals}
use Rattle.liquid_evaluation.specs.declared.comparison.ComparisonOperator.TheVariants.{GreaterThanEquals}
use Rattle.liquid_evaluation.specs.declared.comparison.ComparisonOperator.TheVariants.{Contains}
use Rattle.liquid_evaluation.specs.Calls.{Call, applied}
use Rattle.liquid_evaluation.specs.Tree.{Filter, existing, hosted, FilterCall, Chain, Atom, bare}
use Rattle.liquid_evaluation.specs.Tree.{compared, Condition, Source, each_of, counted, Window}
use Rattle.liquid_evaluation.specs.Tree.{Bindings}

-- ---- chains

-- what each filter answers to an input and arguments
abbrev pub FilterAnswers : Type 0
FilterAnswers = Filter → FilterAnswer

-- the filters that exist, beside those of a host by name
abbrev pub answers_with : (Text → FilterAnswer) → FilterAnswers
answers_with named (existing kind) = kind_answer kind
answers_with named (hosted name) = named name

-- a refused input
abbrev pub refuses_input : Result Datum ErrorKind → Bool
refuses_input (Err InvalidInput) = true
refuses_input _ = false

-- the first answer, or the second where the first refuses the input
abbrev pub accepted : Result Datum ErrorKind → Result Datum ErrorKind → Result Datum ErrorKind
accepted first second = cond (refuses_input first) second first

-- where nil is refused as the input, an empty list is given in its place, and where that is refused
-- too, 0
abbrev pub accepting_nil : FilterAnswer → FilterAnswer
accepting_nil answers nil arguments = accepted (answers nil arguments)
    (accepted (answers (array no_items) arguments) (answers (number (pos 0)) arguments))
accepting_nil answers d arguments = answers d arguments

-- so answers each filter that exists where a missing value is nil; a host's are left alone
abbrev pub answers_in : Missing → FilterAnswers → FilterAnswers
answers_in IsFault answers filter = answers filter
answers_in IsNil answers (existing kind) = accepting_nil (answers (existing kind))
answers_in IsNil answers (hosted name) = answers (hosted name)

-- a missing entry is nil before a filter, and any missing value without one
abbrev pub entry_value : Missing → Option Datum → List FilterCall → Result Datum ErrorKind
entry_value missing (Some d) calls = Ok d
entry_value missing None [] = if_missing nil missing
entry_value missing None (call ∷ calls) = Ok nil

-- a chain's filter with what it answers, and all of them
abbrev pub call_by : FilterAnswers → FilterCall → Call
call_by answers call = record {
  answers = answers call.filter;
  arguments = call.arguments;
  required = call.required;
}

abbrev pub calls_by : FilterAnswers → List FilterCall → List Call
calls_by answers = map (call_by answers)

-- a value, through filters in order
abbrev pub through : FilterAnswers → List FilterCall → Datum → Environment → Result Datum ErrorKind
through answers filters d e = applied (calls_by (answers_in e.missing answers) filters) d e

-- the entry, then the filters in order
unfoldable pub chain_value : FilterAnswers → Chain → Environment → Result Datum ErrorKind
chain_value answers chain e = do
  entry ← entry_value e.missing (value_of chain.entry e) chain.filters
  applied (calls_by (answers_in e.missing answers) chain.filters) entry e

-- ---- conditions

-- where the order of conditions has no answer, each test of it is false
abbrev pub order_passes : (Ordering → Bool) → Option Ordering → Bool
order_passes test None = false
order_passes test (Some o) = test o

-- whether t has s in it
abbrev pub occurs_in : Text → Text → Bool
occurs_in s [] = starts_with nat_eq [] s
occurs_in s (c ∷ t) = starts_with nat_eq (c ∷ t) s || occurs_in s t

-- whether the text of a scalar is a key
abbrev pub has_key : Pairs → Datum → Bool
has_key ps d = scalar d && is_some (value_at (text_of d) ps)

-- nil on the left is refused, or has nothing where a missing value is nil; a list has an equal
-- item; a map has a scalar's text as a key; a scalar's text has the text of d in it
abbrev pub contains : Missing → Datum → Datum → Result Bool ErrorKind
contains missing nil d = forgiven UnexpectedValue false missing
contains missing (array ds) d = Ok (list_any (λ item. same item d) (list_of ds))
contains missing (object ps) d = Ok (has_key ps d)
contains missing c d = Ok (occurs_in (text_of d) (text_of c))

unfoldable pub comparison_truth : Missing → ComparisonOperator → Datum → Datum →
    Result Bool ErrorKind
comparison_truth missing Equals l r = Ok (same l r)
comparison_truth missing NotEquals l r = Ok (not (same l r))
comparison_truth missing LessThan l r = Ok (order_passes is_lt (compare l r))
comparison_truth missing GreaterThan l r = Ok (order_passes is_gt (compare l r))
comparison_truth missing LessThanEquals l r = Ok (order_passes is_le (compare l r))
comparison_truth missing GreaterThanEquals l r = Ok (order_passes is_ge (compare l r))
comparison_truth missing Contains l r = contains missing l r

-- where a side is missing, `==` and `!=` compare nil in its place, and the others are false
abbrev pub truth_beside_missing : ComparisonOperator → Datum → Datum → Bool
truth_beside_missing Equals l r = same l r
truth_beside_missing NotEquals l r = not (same l r)
truth_beside_missing _ l r = false

abbrev pub truth_of_found : Missing → ComparisonOperator → Option Datum → Option Datum →
    Result Bool ErrorKind
truth_of_found missing comparison (Some l) (Some r) = comparison_truth missing comparison l r
truth_of_found missing comparison (Some l) None = Ok (truth_beside_missing comparison l nil)
truth_of_found missing comparison None (Some r) = Ok (truth_beside_missing comparison nil r)
truth_of_found missing comparison None None = Ok (truth_beside_missing comparison nil nil)

-- a missing value is false
abbrev pub bare_truth : Option Datum → Bool
bare_truth None = false
bare_truth (Some d) = truthy d

-- the truth of a value, or a comparison of two, the left one evaluated first
unfoldable pub atom_truth : Atom → Environment → Result Bool ErrorKind
atom_truth (bare x) e = Ok (bare_truth (value_of x e))
atom_truth (compared left comparison right) e = do
  l ← sought left e
  r ← sought right e
  truth_of_found e.missing comparison l r

-- atoms joined by `and`: up to the first that is false
unfoldable pub all_true : List Atom → Environment → Result Bool ErrorKind
all_true [] e = Ok true
all_true (atom ∷ atoms) e = do
  holds ← atom_truth atom e
  cond holds (all_true atoms e) (Ok false)

-- conjunctions joined by `or`: up to the first that is true
unfoldable pub truth_of : Condition → Environment → Result Bool ErrorKind
truth_of [] e = Ok false
truth_of (conjunction ∷ conjunctions) e = do
  holds ← all_true conjunction e
  cond holds (Ok true) (truth_of conjunctions e)

-- ---- loops

abbrev pub most_items : ℕ
most_items = 9223372036854775807

-- a list gives its items, a map the two-item lists `[key, value]`, nil none; other values are
-- refused
abbrev pub value_items : Datum → Result (List Datum) ErrorKind
value_items nil = Ok []
value_items (array ds) = Ok (list_of ds)
value_items (object ps) = Ok (pair_lists ps)
value_items _ = Err UnexpectedValue

abbrev pub not_too_long : ℕ → List Datum → Result (List Datum) ErrorKind
not_too_long n ds = cond (nat_le n most_items) (Ok ds) (Err RangeTooLong)

-- how many numbers stand from a to b
abbrev pub count_to : ℤ → ℤ → ℕ
count_to a b = cond (int_le a b) (suc (nat_abs (b -ℤ a))) 0

-- n numbers from a on
abbrev pub numbers_from : ℤ → ℕ → List Datum
numbers_from a zero = []
numbers_from a (suc n) = number a ∷ numbers_from (a +ℤ pos 1) n

-- the items of a value, or the numbers of a range, each end of which is evaluated and converted in
-- turn; too many items are refused
unfoldable pub source_items : Source → Environment → Result (List Datum) ErrorKind
source_items (each_of x) e = do
  d ← required x e
  ds ← value_items d
  not_too_long (length ds) ds
source_items (counted first last) e = do
  a ← needed_whole first e
  b ← needed_whole last e
  not_too_long (count_to a b) (numbers_from a (count_to a b))

-- a limit, an offset or a number of columns, where one is given: a whole number. A missing one and
-- nil are as none where they aren't a fault
unfoldable pub amount : Option Expression → Environment → Result (Option ℤ) ErrorKind
amount None e = Ok None
amount (Some x) e = sought_whole x e

-- a negative number counts as huge
abbrev pub count_within_limit : ℕ → ℤ → ℕ
count_within_limit n (pos k) = min k n
count_within_limit n (negsuc k) = n

-- of n items, how many are left out, and how many are asked for after o of them
abbrev pub skipped : ℕ → Option ℤ → ℕ
skipped n None = 0
skipped n (Some offset) = count_within_limit n offset

abbrev pub selected_count : ℕ → ℕ → Option ℤ → ℕ
selected_count n o None = n - o
selected_count n o (Some limit) = count_within_limit n limit

-- m items from place o on, each nil where there is none
abbrev pub items_in_window : List Datum → ℕ → ℕ → List Datum
items_in_window ds o zero = []
items_in_window ds o (suc m) = get_or ds o nil ∷ items_in_window ds (suc o) m

-- of these items, what limit, offset and, last of all, `reversed` ask for
abbrev pub window_items : List Datum → Option ℤ → Option ℤ → Bool → List Datum
window_items ds limit offset reversed =
    let o = skipped (length ds) offset in
    let items = items_in_window ds o (selected_count (length ds) o limit) in
    cond reversed (reverse items) items

-- limit and offset are evaluated in this order
unfoldable pub selected_items : Window → List Datum → Environment → Result (List Datum) ErrorKind
selected_items window ds e = do
  limit ← amount window.limit e
  offset ← amount window.offset e
  Ok (window_items ds limit offset window.reversed)

-- ---- the pairs of a tag

-- each pair's name and value, evaluated in order
unfoldable pub bound_values : Bindings → Environment → Result (List (Text × Datum)) ErrorKind
bound_values [] e = Ok []
bound_values (b ∷ bs) e = do
  d ← required b.1 e
  ds ← bound_values bs e
  Ok ((b.0, d) ∷ ds)
