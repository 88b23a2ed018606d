-- What calls make of tables of answers.
use Rattle.std.specs.Prelude.{◌≡◌, ◌⊎◌, ℕ, List, [], ◌∷◌, Option, Some, None, Result, Ok, Err}
use Rattle.std.specs.Prelude.{codes, false}
use Rattle.std.specs.Prelude.{if◌then◌else◌, nat_eq, length, option_map, slice_get}
use Rattle.std.specs.Option.{ok_or}
use Rattle.std.specs.Str.{IsUtf8}
use Rattle.liquid_model.specs.Data.{Datum, nil}
use Rattle.liquid_model.specs.ErrorKinds.{number_of}
use Rattle.liquid_model.specs.Find.{value_at}
use Rattle.liquid_model.specs.Texts.{Text}
use Rattle.liquid_model.specs.View.{pairs_view, view}
use Rattle.liquid_model.specs.declared.error.ErrorKind.{ErrorKind}
use Rattle.liquid_model.specs.declared.error.ErrorKind.TheVariants as kind
use Rattle.liquid_model.specs.declared.error.ErrorKind.TheVariants.{InvalidInput, Memory}
use Rattle.liquid_core.specs.Held.{Outer}
use Rattle.liquid_answers.specs.Lacking.{calls_in}
use Rattle.liquid_answers.specs.Tables.{IsAnswerStored, answer_at, filter_names, said_by, site_of}
use Rattle.liquid_answers.specs.Tables.{with_name}
use Rattle.liquid_answers.specs.declared.answers.Answer.{Answer}
use Rattle.liquid_answers.specs.declared.answers.Answers.{Answers}
use Rattle.liquid_c.specs.Numbers.{number_of_refusal}
use Rattle.liquid_c.specs.declared.content.Content.{Content}
use Rattle.liquid_c.specs.declared.content.Content.TheVariants as content
use Rattle.liquid_c.specs.declared.handle_content.HandleContent.{HandleContent}
use Rattle.liquid_c.specs.declared.handle_content.HandleContent.TheVariants.{Own, Shared}
use Rattle.liquid_c.specs.declared.refusal.Refusal.{Refusal}
use Rattle.liquid_c.specs.declared.refusal.Refusal.TheVariants.{NoSuchCall}
use Rattle.liquid_c.specs.declared.refusal.Refusal.TheVariants.{SharedHandle, NoText, OtherHandle}

-- a table without names, answers and sets
abbrev pub IsNewTable : Result Content Refusal → Type 0
IsNewTable (Ok (content.Answers table)) = (filter_names table ≡ []) ×
    ((call : Datum) → answer_at table call ≡ None) × (site_of table ≡ None)
    × (table.shop ≡ None) × (table.has_decimals ≡ false)
IsNewTable _ = ⊥

-- the table in the handle is such a one
abbrev pub HoldsTable : (Answers → Type 0) → Option HandleContent → Type 0
HoldsTable P (Some (Own (content.Answers table))) = P table
HoldsTable P _ = ⊥

-- the names and the answers are the old ones
abbrev pub HasSameAnswers : Answers → Answers → Type 0
HasSameAnswers old new = (filter_names new ≡ filter_names old)
    × ((call : Datum) → answer_at new call ≡ answer_at old call)

-- the sets are the old ones
abbrev pub HasSameSets : Answers → Answers → Type 0
HasSameSets old new = (site_of new ≡ site_of old) × (new.shop ≡ old.shop)
    × (new.has_decimals ≡ old.has_decimals)

abbrev pub IsSameTable : Answers → Answers → Type 0
IsSameTable old new = HasSameAnswers old new × HasSameSets old new

-- the table changed as R says;  or memory ran out, and nothing changed
pub data ChangesTable (R : Answers → Answers → Type 0) (old : Answers) (number : ℕ)
    (left : Option HandleContent) : Type 0 where
  done : number ≡ 0 → HoldsTable (R old) left → ChangesTable R old number left
  refused : number ≡ number_of Memory → HoldsTable (IsSameTable old) left →
      ChangesTable R old number left

-- ---- names

-- the table has the name too
abbrev pub HasName : Text → Answers → Answers → Type 0
HasName name old new = (filter_names new ≡ with_name name (filter_names old))
    × ((call : Datum) → answer_at new call ≡ answer_at old call) × HasSameSets old new

abbrev pub IsNaming : Option HandleContent → List ℕ → ℕ → Option HandleContent → Type 0
IsNaming (Some (Own (content.Answers table))) name number left =
    (IsUtf8 name × ChangesTable (HasName name) table number left)
    ⊎ ((IsUtf8 name → ⊥) × (number ≡ number_of_refusal NoText)
    × HoldsTable (IsSameTable table) left)
IsNaming (Some (Shared c)) name number left =
    (number ≡ number_of_refusal SharedHandle) × (left ≡ Some (Shared c))
IsNaming old name number left = (number ≡ number_of_refusal OtherHandle) × (left ≡ old)

-- ---- answers

-- how many calls a handle holds
abbrev pub calls_of_handle : Option Content → ℕ
calls_of_handle (Some (content.Lacking it)) = length (calls_in it)
calls_of_handle _ = 0

-- the call of this number, or why there is none
abbrev pub call_of_handle : ℕ → Option Content → Result Datum Refusal
call_of_handle number (Some (content.Lacking it)) =
    ok_or (option_map view (slice_get (calls_in it) number)) NoSuchCall
call_of_handle number _ = Err OtherHandle

abbrev pub answer_or_nil : Option Datum → Datum
answer_or_nil None = nil
answer_or_nil (Some d) = d

-- the member of data that is the answer
abbrev pub answer_among : Outer → Datum
answer_among «data» = answer_or_nil (value_at (codes "answer") (pairs_view «data».entries))

-- the answer that data hold
abbrev pub answer_of_handle : Option Content → Result (Result Datum ErrorKind) Refusal
answer_of_handle (Some (content.Data d)) = Ok (Ok (answer_among d))
answer_of_handle _ = Err OtherHandle

-- the kind of this number among these, or `InvalidInput`
abbrev pub kind_among : List ErrorKind → ℕ → ErrorKind
kind_among [] number = InvalidInput
kind_among (k ∷ ks) number = if nat_eq (number_of k) number then k else kind_among ks number

-- those of a run, but for `Memory` and `Write`
abbrev pub kinds_of_runs : List ErrorKind
kinds_of_runs = kind.UnknownVariable ∷ kind.InvalidInput ∷ kind.InvalidArgument ∷
    kind.UnexpectedValue ∷ kind.NumberRange ∷ kind.DivideByZero ∷ kind.Float ∷ kind.CycleBounds ∷
    kind.ZeroColumns ∷ kind.RangeTooLong ∷ kind.UnknownPartial ∷ kind.PartialName ∷
    kind.TooDeep ∷ kind.DateFormat ∷ kind.TimezoneRange ∷ kind.Unsupported ∷ []

-- the table says so of the call, and the same as before of all others
abbrev pub StoresAnswer : Datum → Result Datum ErrorKind → Answers → Answers → Type 0
StoresAnswer call said old new = (answer : Answer) × (said_by answer ≡ said) ×
    IsAnswerStored old call answer new
    × (filter_names new ≡ filter_names old) × HasSameSets old new

abbrev pub IsAnswering : Option HandleContent → Result Datum Refusal
    → Result (Result Datum ErrorKind) Refusal → ℕ → Option HandleContent → Type 0
IsAnswering old (Err r) answer number left = (number ≡ number_of_refusal r) × (left ≡ old)
IsAnswering old (Ok call) (Err r) number left = (number ≡ number_of_refusal r) × (left ≡ old)
IsAnswering (Some (Own (content.Answers table))) (Ok call) (Ok said) number left =
    ChangesTable (StoresAnswer call said) table number left
IsAnswering (Some (Shared c)) (Ok call) (Ok said) number left =
    (number ≡ number_of_refusal SharedHandle) × (left ≡ Some (Shared c))
IsAnswering old (Ok call) (Ok said) number left =
    (number ≡ number_of_refusal OtherHandle) × (left ≡ old)

-- an answer of a kind, where the message is a text
abbrev pub IsRefusing : Option HandleContent → Result Datum Refusal → ℕ → List ℕ → ℕ
    → Option HandleContent → Type 0
IsRefusing old call kind message number left =
    (IsUtf8 message
    × IsAnswering old call (Ok (Err (kind_among kinds_of_runs kind))) number left)
    ⊎ ((IsUtf8 message → ⊥) × IsAnswering old call (Err NoText) number left)

-- ---- answers on their way

-- the answer, where there was room for it, or why there is none
abbrev pub Given : Result (Option Answer) Refusal → Result (Result Datum ErrorKind) Refusal → Type 0
Given (Ok (Some answer)) wanted = wanted ≡ Ok (said_by answer)
Given (Ok None) wanted = (said : Result Datum ErrorKind) × (wanted ≡ Ok said)
Given (Err r) wanted = wanted ≡ Err r
