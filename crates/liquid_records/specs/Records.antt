-- What a record comes to: a page and the name of its file, or why it has none. It depends on the
-- job and the record's own data alone.
--     record_page job      the page of the job's template over its data, rendered from nothing
--     pattern_page job pattern      that of a pattern, which calls no filter of a host, and where a
--                                   missing value is a fault
--     record_outcome job pattern data      what a record with this data comes to, where files are
--                                          named by a pattern and no limit ends its page
--     RecordComesTo job wanted got      it comes to that, or a limit of the job ended its page
use Rattle.std.specs.Prelude.{◌≡◌, ◌⊎◌, Bool, true}
use Rattle.std.specs.Prelude.{ℕ, cond, List, [], Option, Some, None, Result, Ok, Err}
use Rattle.liquid_model.specs.Data.{Datum, Pairs}
use Rattle.liquid_model.specs.FilterAnswers.{FilterAnswer}
use Rattle.liquid_model.specs.Maps.{Map, merged}
use Rattle.liquid_model.specs.Texts.{Text}
use Rattle.liquid_model.specs.declared.error.ErrorKind.{ErrorKind}
use Rattle.liquid_core.specs.Held.{map_of}
use Rattle.liquid_core.specs.declared.missing_value.Missing.{Missing}
use Rattle.liquid_core.specs.declared.missing_value.Missing.TheVariants.{IsFault}
use Rattle.liquid_evaluation.specs.Tree.{Nodes}
use Rattle.liquid_engine.specs.HostedPages.{hosted_page}
use Rattle.liquid_engine.specs.Pages.{Shown, page_in}
use Rattle.liquid_records.specs.FileNames.{is_file_name}

-- a template with its partials, how deep these may be nested, what a host's filters answer by name,
-- what becomes of a missing value in its page, whether its page has a limit, and the data that all
-- records share
pub record Job : Type 0 where
  pub template : Nodes
  pub partials : List (Text × Nodes)
  pub depth : ℕ
  pub named : Text → FilterAnswer
  pub missing : Missing
  pub has_limit : Bool
  pub shared : Map Datum

-- a page without a fault, and the name of its file
pub record Made : Type 0 where
  pub name : Text
  pub text : Text

-- why a record has no page
pub data Reason : Type 0 where
  -- its text is no data
  no_data : ErrorKind → Reason
  -- the page of the pattern ends by a fault
  unnamed : ErrorKind → Reason
  -- what the pattern gives is no name of a file
  bad_name : Text → Reason
  -- its page ends by a fault
  faulted : ErrorKind → Reason
  -- a limit ended its page
  limited : Reason

infixl 10 ◌then◌
abbrev pub ◌then◌ : {A B : Type 0} → Result A Reason → (A → Result B Reason) → Result B Reason
◌then◌ (Ok a) k = k a
◌then◌ (Err why) k = Err why

abbrev pub record_page : Job → Shown
record_page job =
    hosted_page job.missing job.named job.depth job.partials job.shared job.template

abbrev pub pattern_page : Job → Nodes → Shown
pattern_page job pattern = page_in IsFault job.depth job.partials job.shared pattern

-- the job with other shared data
abbrev pub sharing : Map Datum → Job → Job
sharing «data» job = record job { shared = «data» }

-- the job with a record's data over the shared data
abbrev pub with_record : Pairs → Job → Job
with_record «data» job = sharing (merged (map_of «data») job.shared) job

abbrev pub checked_name : Text → Result Text Reason
checked_name name = cond (is_file_name name) (Ok name) (Err (bad_name name))

abbrev pub name_unless : Text → Option ErrorKind → Result Text Reason
name_unless text None = checked_name text
name_unless text (Some kind) = Err (unnamed kind)

-- the name that the page of a pattern is
abbrev pub page_name : Shown → Result Text Reason
page_name page = name_unless page.text page.fault

-- the name of the page's file, which is empty where no files are named; what is missing in a
-- pattern is a fault
abbrev pub record_file_name : Job → Option Nodes → Result Text Reason
record_file_name job None = Ok []
record_file_name job (Some pattern) = page_name (pattern_page job pattern)

abbrev pub made_unless : Text → Text → Option ErrorKind → Result Made Reason
made_unless name text None = Ok (record { name = name; text = text })
made_unless name text (Some kind) = Err (faulted kind)

-- a page under its name
abbrev pub made_page : Text → Shown → Result Made Reason
made_page name page = made_unless name page.text page.fault

-- the name and the page of a job whose data has the record's over it
abbrev pub made_by : Job → Option Nodes → Result Made Reason
made_by job pattern = record_file_name job pattern then λ name.
    made_page name (record_page job)

abbrev pub record_outcome : Job → Option Nodes → Result Pairs ErrorKind → Result Made Reason
record_outcome job pattern (Ok «data») = made_by (with_record «data» job) pattern
record_outcome job pattern (Err kind) = Err (no_data kind)

-- it comes to what is wanted, or a limit ended its page, where the job has one
abbrev pub RecordComesTo : Job → Result Made Reason → Result Made Reason → Type 0
RecordComesTo job wanted got = (got ≡ wanted) ⊎ ((job.has_limit ≡ true) × (got ≡ Err limited))
