-- Each filter answers a value or a kind that a run has.
use Rattle.std.specs.Prelude.{ℕ, zero, suc, ℤ, pos, negsuc, List, [], ◌∷◌, ◌++◌, drop, length, reverse, ◌+ℤ◌, ◌-ℤ◌, ◌*ℤ◌, int_div, int_rem, unsigned_abs, Bool, true, false, not, ◌&&◌, ◌==◌, int_le, int_lt, bytes_eq, codes, Option, Some, None, Result, Ok, Err, T, if◌then◌else◌}
use mathlib.Core.Path.{refl, sym, subst}
use Rattle.std.specs.Int.{int_max, int_min}
use Rattle.std.specs.Str.{is_utf8}
use Rattle.std.specs.Str.Parse.{starts_with_minus}
use Rattle.liquid_model.specs.Data.{Datum, nil, number, text, array, object, scalar, text_of}
use Rattle.liquid_model.specs.Fallible.{◌>>=◌}
use Rattle.liquid_model.specs.Lists.{list_of}
use Rattle.liquid_model.specs.Texts.{Text}
use Rattle.liquid_model.specs.Whole.{whole}
use Rattle.liquid_model.specs.declared.error.ErrorKind.{ErrorKind}
use Rattle.liquid_model.specs.declared.error.ErrorKind.TheVariants.{Float, InvalidArgument}
use Rattle.liquid_model.specs.Arguments.{Answer, number_or_fault, text_or, first_of}
use Rattle.liquid_filters.specs.Clock.{Clock}
use Rattle.liquid_filters.specs.Dates.{date_of, as_text, or_input, dated, is_zone, in_zone, date_in_tz_answer}
use Rattle.liquid_filters.specs.Printed.{printed}
use Rattle.liquid_filters.proofs.PrintedKinds.{printed_kind}
use Rattle.liquid_filters.specs.JekyllEnds.{push_answer, unshift_answer, without_last}
use Rattle.liquid_filters.specs.Path.{path}
use Rattle.liquid_filters.specs.Pluralize.{numbered, pluralize_answer}
use Rattle.liquid_filters.specs.Sentence.{sentence_by}
use Rattle.liquid_filters.specs.Slugs.{mode_named, slugify_answer}
use Rattle.liquid_filters.specs.JekyllSorting.{nils_given, or_no_path, sort_items}
use Rattle.liquid_filters.specs.Ends.{first_answer, last_answer}
use Rattle.liquid_filters.specs.Joined.{join_by}
use Rattle.liquid_filters.specs.Keeping.{compact, compact_by, compact_answer, where_by, where_answer, mapped_property, map_answer, uniq}
use Rattle.liquid_filters.specs.Rows.{after_list, concat_by, concat_answer}
use Rattle.liquid_filters.specs.Sequences.{sequence, all_maps, of_list}
use Rattle.liquid_filters.specs.Sorting.{Key, key_of, natural_key_of, sort_named, sort_answer, sort_natural_answer}
use Rattle.liquid_filters.specs.Decimals.{is_decimal, is_decimal_text, if_fits, whole_digits, fraction_digits}
use Rattle.liquid_filters.specs.Numbers.{or_range, in_range, is_numeric, unlike, is_zero, both_or, operands, absolute, abs, of_one, plus, minus, times, divided_by, modulo, at_least, at_most}
use Rattle.liquid_filters.specs.Rounding.{signed, size, rounded_decimal, rounded_of, rounded, unrounded_of, round, most_places}
use Rattle.liquid_filters.specs.declared.stdlib.filters.math.decimal.Rounding.{Rounding}
use Rattle.liquid_filters.specs.declared.stdlib.filters.math.decimal.Rounding.TheVariants.{Nearest, Up, Down}
use Rattle.liquid_filters.specs.Arguments.{whole_or}
use Rattle.liquid_filters.specs.Slice.{sliced}
use Rattle.liquid_filters.specs.Escapes.{escape_answer, escape_once_answer}
use Rattle.liquid_filters.specs.Urls.{text_of_bytes, unescaped, url_encode_answer, url_decode_answer}
use Rattle.liquid_filters.specs.Kinds.{kind_answer}
use Rattle.liquid_filters.specs.RunKinds.{is_run_kind, KindsOfAnswers}
use Rattle.liquid_filters.specs.declared.kind.FilterKind.{FilterKind}
use Rattle.liquid_filters.specs.declared.kind.FilterKind.TheVariants.{Join, Sort, SortNatural, Where, Uniq, Reverse, Map, Compact, Concat, First, Last, Abs, AtLeast, AtMost, Plus, Minus, Times, DividedBy, Modulo, Round, Ceil, Floor, Slice, Truncate, TruncateWords, Escape, EscapeOnce, UrlEncode, UrlDecode, Date, JekyllSort, Push, Unshift, Pop, Shift, ArrayToSentenceString, Slugify, Pluralize, DateInTz}
use Rattle.liquid_filters.proofs.Ended.{Ended, ended_ok, ended_err, ended_then, ended_cond}

-- ---- arguments

ended_number_or : (o : Option ℤ) → Ended (number_or_fault o)
ended_number_or None = ended_err _ tt
ended_number_or (Some z) = ended_ok z

ended_whole_or : (missing : ℤ) (ds : List Datum) → Ended (whole_or missing ds)
ended_whole_or missing [] = ended_ok missing
ended_whole_or missing (d ∷ ds) = ended_number_or (whole d)

-- ---- lists

ended_of_list : (f : List Datum → List Datum) (d : Datum) → Ended (of_list f d)
ended_of_list f (array ds) = ended_ok _
ended_of_list f _ = ended_err _ tt

ended_join : (separator : Text) (d : Datum) → Ended (join_by separator d)
ended_join separator (array ds) = ended_ok _
ended_join separator _ = ended_err _ tt

ended_sort_named : (key : Option Text → Datum → Key) (name : Text) (d : Datum) → Ended (sort_named key name d)
ended_sort_named key name d = ended_cond (all_maps (sequence d)) (ended_ok _) (ended_err _ tt)

ended_sort : (d : Datum) (args : List Datum) → Ended (sort_answer d args)
ended_sort d [] = ended_ok _
ended_sort d (name ∷ args) = ended_sort_named key_of (text_of name) d

ended_sort_natural : (d : Datum) (args : List Datum) → Ended (sort_natural_answer d args)
ended_sort_natural d [] = ended_ok _
ended_sort_natural d (name ∷ args) = ended_sort_named natural_key_of (text_of name) d

ended_where_by : (name : Text) (target : Option Datum) (d : Datum) → Ended (where_by name target d)
ended_where_by name target (array ds) = ended_cond (all_maps (list_of ds)) (ended_ok _) (ended_ok _)
ended_where_by name target (object ps) = ended_ok _
ended_where_by name target _ = ended_err _ tt

ended_where : (d : Datum) (args : List Datum) → Ended (where_answer d args)
ended_where d [] = ended_err _ tt
ended_where d (name ∷ args) = ended_where_by (text_of name) (first_of args) d

ended_map : (d : Datum) (args : List Datum) → Ended (map_answer d args)
ended_map d [] = ended_err _ tt
ended_map d (name ∷ args) = ended_of_list (mapped_property (text_of name)) d

ended_compact_by : (name : Text) (d : Datum) → Ended (compact_by name d)
ended_compact_by name (array ds) = ended_cond (all_maps (list_of ds)) (ended_ok _) (ended_err _ tt)
ended_compact_by name _ = ended_err _ tt

ended_compact : (d : Datum) (args : List Datum) → Ended (compact_answer d args)
ended_compact d [] = ended_of_list compact d
ended_compact d (name ∷ args) = ended_compact_by (text_of name) d

ended_after : (ds : List Datum) (e : Datum) → Ended (after_list ds e)
ended_after ds (array es) = ended_ok _
ended_after ds _ = ended_err _ tt

ended_concat_by : (d e : Datum) → Ended (concat_by d e)
ended_concat_by (array ds) e = ended_after (list_of ds) e
ended_concat_by _ e = ended_err _ tt

ended_concat : (d : Datum) (args : List Datum) → Ended (concat_answer d args)
ended_concat d [] = ended_err _ tt
ended_concat d (e ∷ args) = ended_concat_by d e

ended_first : (d : Datum) (args : List Datum) → Ended (first_answer d args)
ended_first (array ds) args = ended_ok _
ended_first nil args = ended_err _ tt
ended_first (object ps) args = ended_err _ tt
ended_first _ args = ended_ok _

ended_last : (d : Datum) (args : List Datum) → Ended (last_answer d args)
ended_last (array ds) args = ended_ok _
ended_last nil args = ended_err _ tt
ended_last (object ps) args = ended_err _ tt
ended_last _ args = ended_ok _

-- ---- numbers

ended_in_range : (z : ℤ) → Ended (in_range z)
ended_in_range z = on (if_fits z)
  where
    on : (o : Option ℤ) → Ended (or_range o)
    on None = ended_err _ tt
    on (Some a) = ended_ok _

unlike_kind : (d e : Datum) → T (is_run_kind (unlike d e))
unlike_kind d e = on (is_numeric d && is_numeric e)
  where
    on : (b : Bool) → T (is_run_kind (if b then Float else InvalidArgument))
    on true = tt
    on false = tt

ended_both : (kind : ErrorKind) → T (is_run_kind kind) → (a b : Option ℤ) → Ended (both_or kind a b)
ended_both kind ok (Some a) (Some b) = ended_ok _
ended_both kind ok None b = ended_err kind ok
ended_both kind ok (Some a) None = ended_err kind ok

ended_operands : (divides : Bool) (d e : Datum) → Ended (operands divides d e)
ended_operands divides d e =
    ended_cond (not (scalar d)) (ended_err _ tt)
    (ended_cond (not (scalar e)) (ended_err _ tt)
    (ended_cond (divides && is_zero (whole e)) (ended_err _ tt) (ended_both (unlike d e) (unlike_kind d e) (whole d) (whole e))))

ended_one : (f : Datum → Datum → Answer) → ((d e : Datum) → Ended (f d e)) → (d : Datum) (args : List Datum) → Ended (of_one f d args)
ended_one f i d [] = ended_err _ tt
ended_one f i d (e ∷ es) = i d e

ended_computed : (divides : Bool) (f : ℤ × ℤ → ℤ) (d e : Datum) → Ended (operands divides d e >>= λ p. in_range (f p))
ended_computed divides f d e = ended_then (ended_operands divides d e) (λ p. ended_in_range (f p))

ended_chosen : (divides : Bool) (f : ℤ × ℤ → ℤ) (d e : Datum) → Ended (operands divides d e >>= λ p. Ok (number (f p)))
ended_chosen divides f d e = ended_then (ended_operands divides d e) (λ p. ended_ok _)

ended_absolute : (o : Option ℤ) (decimal : Bool) → Ended (absolute o decimal)
ended_absolute (Some a) decimal = ended_in_range (pos (unsigned_abs a))
ended_absolute None true = ended_err _ tt
ended_absolute None false = ended_err _ tt

ended_abs : (d : Datum) → Ended (abs d)
ended_abs d = ended_cond (scalar d) (ended_absolute (whole d) (is_decimal_text d)) (ended_err _ tt)

ended_decimal : (how : Rounding) (s : Text) → Ended (rounded_decimal how s)
ended_decimal how s = ended_in_range (signed (starts_with_minus s) (size how (starts_with_minus s) (whole_digits s) (fraction_digits s)))

ended_rounded_of : (how : Rounding) (o : Option ℤ) (d : Datum) → Ended (rounded_of how o d)
ended_rounded_of how (Some n) d = ended_ok _
ended_rounded_of how None (text s) = ended_cond (is_decimal s) (ended_decimal how s) (ended_err _ tt)
ended_rounded_of how None _ = ended_err _ tt

ended_rounded : (how : Rounding) (d : Datum) → Ended (rounded how d)
ended_rounded how d = ended_rounded_of how (whole d) d

ended_unrounded : (o : Option ℤ) (decimal : Bool) → Ended (unrounded_of o decimal)
ended_unrounded (Some n) decimal = ended_ok _
ended_unrounded None true = ended_err _ tt
ended_unrounded None false = ended_err _ tt

ended_round : (d : Datum) (args : List Datum) → Ended (round d args)
ended_round d [] = ended_rounded Nearest d
ended_round d (e ∷ es) = ended_then (ended_number_or (whole e)) (λ places. ended_cond (int_le places (pos 0)) (ended_rounded Nearest d)
    (ended_cond (int_lt most_places places) (ended_err _ tt) (ended_unrounded (whole d) (is_decimal_text d))))

-- ---- texts

ended_sliced : (d : Datum) (offset count : ℤ) → Ended (sliced d offset count)
ended_sliced d offset (pos zero) = ended_err _ tt
ended_sliced d offset (pos (suc n)) = ended_ok _
ended_sliced d offset (negsuc n) = ended_err _ tt

ended_escape : (d : Datum) (args : List Datum) → Ended (escape_answer d args)
ended_escape nil args = ended_ok _
ended_escape _ args = ended_ok _

ended_escape_once : (d : Datum) (args : List Datum) → Ended (escape_once_answer d args)
ended_escape_once nil args = ended_ok _
ended_escape_once _ args = ended_ok _

ended_url_encode : (d : Datum) (args : List Datum) → Ended (url_encode_answer d args)
ended_url_encode nil args = ended_ok _
ended_url_encode _ args = ended_ok _

ended_decoded : (bs : List ℕ) → Ended (text_of_bytes bs >>= λ t. Ok (text t))
ended_decoded bs = ended_then (ended_cond (is_utf8 bs) (ended_ok _) (ended_err _ tt)) (λ t. ended_ok _)

ended_url_decode : (d : Datum) (args : List Datum) → Ended (url_decode_answer d args)
ended_url_decode nil args = ended_ok _
ended_url_decode d args = ended_decoded (unescaped (text_of d))

-- ---- dates

ended_as_text : (x : Result Text ErrorKind) → Ended x → Ended (as_text x)
ended_as_text (Ok s) i = ended_ok _
ended_as_text (Err kind) i = ended_err kind (i.ended kind refl)

ended_printed : (c : Clock) (pattern : List ℕ) → Ended (printed c pattern)
ended_printed c pattern = record { ended = λ kind h. subst (λ k. T (is_run_kind k)) (sym (printed_kind c pattern kind h)) tt }

ended_or_input : (d : Datum) (o : Option Clock) (pattern : Text) → Ended (or_input d o pattern)
ended_or_input d None pattern = ended_ok _
ended_or_input d (Some c) pattern = ended_as_text (printed c pattern) (ended_printed c pattern)

ended_dated : (d : Datum) (pattern : Text) → Ended (dated d pattern)
ended_dated d pattern = ended_cond (length pattern == 0) (ended_ok _) (ended_or_input d (date_of d) pattern)

ended_in_zone : (o : Option Clock) (pattern : Text) (hours : ℤ) → Ended (in_zone o pattern hours)
ended_in_zone None pattern hours = ended_err _ tt
ended_in_zone (Some c) pattern hours = ended_cond (is_zone hours) (ended_as_text _ (ended_printed _ pattern)) (ended_err _ tt)

ended_date_in_tz : (d : Datum) (args : List Datum) → Ended (date_in_tz_answer d args)
ended_date_in_tz d [] = ended_err _ tt
ended_date_in_tz d (pattern ∷ []) = ended_err _ tt
ended_date_in_tz d (pattern ∷ hours ∷ args) = ended_then (ended_number_or (whole hours)) (λ h. ended_in_zone (date_of d) (text_of pattern) h)

-- ---- Jekyll and Shopify

ended_push : (d : Datum) (args : List Datum) → Ended (push_answer d args)
ended_push d [] = ended_err _ tt
ended_push d (x ∷ args) = ended_of_list (λ ds. ds ++ x ∷ []) d

ended_unshift : (d : Datum) (args : List Datum) → Ended (unshift_answer d args)
ended_unshift d [] = ended_err _ tt
ended_unshift d (x ∷ args) = ended_of_list (λ ds. x ∷ ds) d

ended_sentence : (connector : Text) (d : Datum) → Ended (sentence_by connector d)
ended_sentence connector (array ds) = ended_ok _
ended_sentence connector _ = ended_err _ tt

ended_mode : (s : Text) → Ended (mode_named s)
ended_mode s =
    ended_cond (bytes_eq s (codes "raw")) (ended_ok _)
    (ended_cond (bytes_eq s (codes "pretty")) (ended_ok _)
    (ended_cond (bytes_eq s (codes "ascii")) (ended_ok _)
    (ended_cond (bytes_eq s (codes "none")) (ended_ok _)
    (ended_cond (bytes_eq s (codes "latin")) (ended_err _ tt) (ended_ok _)))))

ended_slugify : (d : Datum) (args : List Datum) → Ended (slugify_answer d args)
ended_slugify d [] = ended_ok _
ended_slugify d (mode ∷ args) = ended_then (ended_mode (text_of mode)) (λ m. ended_ok _)

ended_numbered : (o : Option ℤ) (singular plural : Datum) → Ended (numbered o singular plural)
ended_numbered (Some z) singular plural = ended_ok _
ended_numbered None singular plural = ended_err _ tt

ended_pluralize : (d : Datum) (args : List Datum) → Ended (pluralize_answer d args)
ended_pluralize d [] = ended_err _ tt
ended_pluralize d (singular ∷ []) = ended_err _ tt
ended_pluralize d (singular ∷ plural ∷ args) = ended_numbered (whole d) singular plural

ended_nils : (o : Option Datum) → Ended (nils_given o)
ended_nils None = ended_ok _
ended_nils (Some d) = ended_cond (bytes_eq (text_of d) (codes "first")) (ended_ok _) (ended_cond (bytes_eq (text_of d) (codes "last")) (ended_ok _) (ended_err _ tt))

ended_path : (o : Option (List Datum)) → Ended (or_no_path o)
ended_path None = ended_err _ tt
ended_path (Some p) = ended_ok p

ended_sort_items : (ds args : List Datum) → Ended (sort_items ds args)
ended_sort_items ds [] = ended_ok _
ended_sort_items ds (name ∷ args) =
    ended_cond (all_maps ds) (ended_then (ended_nils (first_of args)) (λ n. ended_then (ended_path (path (text_of name))) (λ p. ended_ok _))) (ended_err _ tt)

-- ---- all of them: the last line is for all that refuse nothing

ended_answer : (filter : FilterKind) (d : Datum) (args : List Datum) → Ended (kind_answer filter d args)
ended_answer Join d args = ended_join (text_or (codes " ") args) d
ended_answer Sort d args = ended_sort d args
ended_answer SortNatural d args = ended_sort_natural d args
ended_answer Where d args = ended_where d args
ended_answer Uniq d args = ended_of_list uniq d
ended_answer Reverse d args = ended_of_list reverse d
ended_answer Map d args = ended_map d args
ended_answer Compact d args = ended_compact d args
ended_answer Concat d args = ended_concat d args
ended_answer First d args = ended_first d args
ended_answer Last d args = ended_last d args
ended_answer Abs d args = ended_abs d
ended_answer AtLeast d args = ended_one at_least (ended_chosen false (λ p. int_max p.0 p.1)) d args
ended_answer AtMost d args = ended_one at_most (ended_chosen false (λ p. int_min p.0 p.1)) d args
ended_answer Plus d args = ended_one plus (ended_computed false (λ p. p.0 +ℤ p.1)) d args
ended_answer Minus d args = ended_one minus (ended_computed false (λ p. p.0 -ℤ p.1)) d args
ended_answer Times d args = ended_one times (ended_computed false (λ p. p.0 *ℤ p.1)) d args
ended_answer DividedBy d args = ended_one divided_by (ended_computed true (λ p. int_div p.0 p.1)) d args
ended_answer Modulo d args = ended_one modulo (ended_chosen true (λ p. int_rem p.0 p.1)) d args
ended_answer Round d args = ended_round d args
ended_answer Ceil d args = ended_rounded Up d
ended_answer Floor d args = ended_rounded Down d
ended_answer Slice d args = ended_then (ended_whole_or (pos 0) args) (λ offset. ended_then (ended_whole_or (pos 1) (drop 1 args)) (λ count. ended_sliced d offset count))
ended_answer Truncate d args = ended_then (ended_whole_or (pos 50) args) (λ n. ended_ok _)
ended_answer TruncateWords d args = ended_then (ended_whole_or (pos 50) args) (λ n. ended_ok _)
ended_answer Escape d args = ended_escape d args
ended_answer EscapeOnce d args = ended_escape_once d args
ended_answer UrlEncode d args = ended_url_encode d args
ended_answer UrlDecode d args = ended_url_decode d args
ended_answer Date d args = ended_dated d (text_or [] args)
ended_answer JekyllSort d args = ended_cond (length (sequence d) == 0) (ended_err _ tt) (ended_sort_items (sequence d) args)
ended_answer Push d args = ended_push d args
ended_answer Unshift d args = ended_unshift d args
ended_answer Pop d args = ended_of_list without_last d
ended_answer Shift d args = ended_of_list (drop 1) d
ended_answer ArrayToSentenceString d args = ended_sentence (text_or (codes "and") args) d
ended_answer Slugify d args = ended_slugify d args
ended_answer Pluralize d args = ended_pluralize d args
ended_answer DateInTz d args = ended_date_in_tz d args
ended_answer _ d args = ended_ok _

pub kinds_of_answers : KindsOfAnswers
kinds_of_answers filter d args = (ended_answer filter d args).ended
