-- Jobs, pages and reasons, as contracts see them.
use Rattle.std.specs.Prelude.{◌≡◌, ℕ, Bool, true, ◌||◌, length, Option, is_some, option_map}
use Rattle.std.specs.Prelude.{Result, Ok, Err, IfOk, String, string_bytes}
use Rattle.std.specs.Borrow.{Bor}
use Rattle.std.specs.BTreeMap.{get_by_text}
use Rattle.std.specs.declared.alloc.Global.{Global}
use Rattle.liquid_core.specs.Held.{held}
use Rattle.liquid_model.specs.FilterAnswers.{FilterAnswer}
use Rattle.liquid_model.specs.Texts.{Text}
use Rattle.liquid_engine.specs.Limits.{is_within_limit}
use Rattle.liquid_engine.specs.declared.limits.Limits.{Limits}
use Rattle.liquid_evaluation.specs.Tree.{Nodes}
use Rattle.liquid_syntax.specs.Templates.{tree_of, partials_of}
use Rattle.liquid_syntax.specs.declared.template.Template.{Template}
use Rattle.liquid_records.specs.Records as seen
use Rattle.liquid_records.specs.Steps.{Failed, no_page, again, unwritten, Fate, EarlierNames}
use Rattle.liquid_records.specs.declared.job.Job.{Job}
use Rattle.liquid_records.specs.declared.job.Made.{Made}
use Rattle.liquid_records.specs.declared.job.Why.{Why}
use Rattle.liquid_records.specs.declared.job.Why.TheVariants.{NoData, Unnamed, BadName, Faulted}
use Rattle.liquid_records.specs.declared.job.Why.TheVariants.{Limited}
use Rattle.liquid_records.specs.declared.merge.Failure.{Failure}
use Rattle.liquid_records.specs.declared.merge.Failure.TheVariants.{NoPage, Again, Unwritten}
use Rattle.liquid_records.specs.declared.merge.Merge.{Merge}

-- of bytes or of turns
abbrev pub has_page_limit : Limits → Bool
has_page_limit limits = is_some limits.bytes || is_some limits.turns

abbrev pub job_view : {H : Type 0} → (H → Text → FilterAnswer) → Job H → seen.Job
job_view named j = record {
  template = tree_of j.template;
  partials = partials_of j.partials;
  depth = j.depth;
  named = named j.host;
  missing = j.missing;
  has_limit = has_page_limit j.limits;
  shared = held j.shared;
}

abbrev pub pattern_view : Option (Bor Template) → Option Nodes
pattern_view o = option_map (λ t. tree_of t.now) o

abbrev pub made_view : Made → seen.Made
made_view m = record { name = string_bytes m.name; text = string_bytes m.text }

abbrev pub why_view : Why → seen.Reason
why_view (NoData e) = seen.no_data e.kind
why_view (Unnamed e) = seen.unnamed e.kind
why_view (BadName name) = seen.bad_name (string_bytes name)
why_view (Faulted e) = seen.faulted e.kind
why_view (Limited reached) = seen.limited

-- what a call answers, its value seen by view
abbrev pub outcome_view : {X Y : Type 0} → (X → Y) → Result X Why → Result Y seen.Reason
outcome_view view (Ok x) = Ok (view x)
outcome_view view (Err why) = Err (why_view why)

-- a page that was made has no more bytes than the limit on them
abbrev pub KeepsBytes : Limits → Result seen.Made seen.Reason → Type 0
KeepsBytes limits r = IfOk r (λ m. is_within_limit (length m.text) limits.bytes ≡ true)

abbrev pub failure_view : Failure → Failed
failure_view (NoPage why) = no_page (why_view why)
failure_view (Again name number) = again (string_bytes name) number
failure_view (Unwritten name fault) = unwritten (string_bytes name)

abbrev pub fate_view : Result (String Global) Failure → Fate
fate_view (Ok name) = Ok (string_bytes name)
fate_view (Err failure) = Err (failure_view failure)

-- ---- merges

abbrev pub job_of : {H : Type 0} → (H → Text → FilterAnswer) → Merge H → seen.Job
job_of named m = job_view named m.job

abbrev pub pattern_of : {H : Type 0} → Merge H → Nodes
pattern_of m = tree_of m.pattern

abbrev pub merge_names : {H : Type 0} → Merge H → EarlierNames
merge_names m = λ name. get_by_text m.names name
