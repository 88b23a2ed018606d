-- Tables of answers to calls of filters.
--     call_datum name input args      a call as one value
--     answer_at table call      the answer to it, where the table has one
--     answers_by is_asking table      what the table's filters answer by name
use Rattle.std.specs.Prelude.{◌≡◌, Bool, true, false, cond, ◌||◌, List, [], ◌∷◌, ◌++◌, map}
use Rattle.std.specs.Prelude.{Option, Some, None, Result, Ok, Err, option_map, string_bytes}
use Rattle.std.specs.BTreeMap.{get_by}
use Rattle.std.specs.Ordering.{is_eq}
use Rattle.liquid_model.specs.Texts.{Text, same_text}
use Rattle.liquid_model.specs.Data.{Datum, nil, text, array, item}
use Rattle.liquid_model.specs.ErrorKinds.{is_refusal}
use Rattle.liquid_model.specs.Order.{order}
use Rattle.liquid_model.specs.View.{items_of, view}
use Rattle.liquid_model.specs.declared.error.ErrorKind.{ErrorKind}
use Rattle.liquid_model.specs.declared.error.ErrorKind.TheVariants.{InvalidInput, Memory}
use Rattle.liquid_model.specs.declared.value.Value.{Value}
use Rattle.liquid_model.specs.FilterAnswers.{FilterAnswer}
use Rattle.liquid_answers.specs.Sets.{set_answers}
use Rattle.liquid_answers.specs.Sites.{place_view}
use Rattle.liquid_answers.specs.declared.answers.Answer.{Answer}
use Rattle.liquid_answers.specs.declared.answers.Answer.TheVariants as kept
use Rattle.liquid_answers.specs.declared.answers.Answers.{Answers}

-- a call: the filter's name, the input and the arguments
abbrev pub call_datum : Text → Datum → List Datum → Datum
call_datum name input args = array (item (text name) (item input (items_of args)))

-- a filter refuses by no kind but a fault's own: in place of `Memory` and `Write` by `InvalidInput`
abbrev pub as_fault : ErrorKind → ErrorKind
as_fault kind = cond (is_refusal kind) InvalidInput kind

-- what an answer says
abbrev pub said_by : Answer → Result Datum ErrorKind
said_by (kept.Value v) = Ok (view v)
said_by (kept.Fault kind message) = Err (as_fault kind)

-- the answer to a call, where the table has one
abbrev pub answer_at : Answers → Datum → Option Answer
answer_at table call = get_by (λ k. order call (view k)) table.answers

-- the names of its filters
abbrev pub filter_names : Answers → List Text
filter_names table = map string_bytes table.names.items

-- the address and the base path of its site, where it has one
abbrev pub site_of : Answers → Option (Text × Text)
site_of table = option_map place_view table.site

abbrev pub is_listed_filter : Text → List Text → Bool
is_listed_filter name [] = false
is_listed_filter name (n ∷ ns) = same_text n name || is_listed_filter name ns

-- a name that is there already stays there once
abbrev pub with_name : Text → List Text → List Text
with_name name ns = cond (is_listed_filter name ns) ns (ns ++ name ∷ [])

-- the new table has this answer to the call, and to any other the old one's
abbrev pub IsAnswerStored : Answers → Datum → Answer → Answers → Type 0
IsAnswerStored old call answer new = (other : Value) → answer_at new (view other) ≡
    cond (is_eq (order call (view other))) (Some answer) (answer_at old (view other))

-- ---- what its filters answer

-- A call that the table lacks answers `Memory`, so that no page comes of it; or nil, in a run that
-- asks which calls are lacking.
abbrev pub stand_in : Bool → Result Datum ErrorKind
stand_in is_asking = cond is_asking (Ok nil) (Err Memory)

abbrev pub said_or : Result Datum ErrorKind → Option Answer → Result Datum ErrorKind
said_or other (Some answer) = said_by answer
said_or other None = other

abbrev pub table_answer : Bool → Answers → Text → FilterAnswer
table_answer is_asking table name input args =
    said_or (stand_in is_asking) (answer_at table (call_datum name input args))

-- by name, where the table has the filter;  else as the table's sets, which need no answers
abbrev pub answers_by : Bool → Answers → Text → FilterAnswer
answers_by is_asking table name input args = cond (is_listed_filter name (filter_names table))
    (table_answer is_asking table name input args) (set_answers table name input args)
