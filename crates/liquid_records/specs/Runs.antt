-- A merge over a list of records, and what holds of it.
--     AreRecordsTaken limit comes records old fates new      the records were taken one after
--       another; comes says what each comes to, unless a limit ended its page
--     written_names fates      the names of the files that were written, or refused by the disk
--     page_names fates      the names of those that were written
use Rattle.std.specs.Prelude.{◌≡◌, ◌⊎◌, ℕ, Bool, true, false, List, [], ◌∷◌, ◌++◌, bytes_eq, ⊤}
use Rattle.std.specs.Prelude.{Some, Result, Ok, Err}
use Rattle.std.specs.List.{list_any}
use Rattle.liquid_model.specs.Data.{Pairs}
use Rattle.liquid_model.specs.Maps.{empty}
use Rattle.liquid_model.specs.Texts.{Text}
use Rattle.liquid_model.specs.declared.error.ErrorKind.{ErrorKind}
use Rattle.liquid_evaluation.specs.Tree.{Nodes}
use Rattle.liquid_files.specs.Files.{Files, holds}
use Rattle.liquid_records.specs.Records.{Job, Made, Reason, limited, record_outcome}
use Rattle.liquid_records.specs.Steps.{EarlierNames, Fate, IsRecordStep, Leaves, unwritten}

-- records by their numbers: the data of each, or the kind of its fault
abbrev pub Records : Type 0
Records = List (ℕ × Result Pairs ErrorKind)

-- where a merge is: the names that came, and the files
pub record Stand : Type 0 where
  pub names : EarlierNames
  pub files : Files

-- one record was taken
pub record IsTaken (made : Result Made Reason) (n : ℕ) (old : Stand) (fate : Fate)
    (new : Stand) : Type 0 where
  pub step : IsRecordStep n made old.names fate new.names
  pub left : Leaves made fate old.files (Some new.files)

-- one record was taken, or a limit ended its page, where there is one
abbrev pub IsTakenWithin : Bool → Result Made Reason → ℕ → Stand → Fate → Stand → Type 0
IsTakenWithin limit made n old fate new = IsTaken made n old fate new
    ⊎ ((limit ≡ true) × IsTaken (Err limited) n old fate new)

abbrev pub AreRecordsTaken : Bool → (Result Pairs ErrorKind → Result Made Reason) → Records →
    Stand → List Fate → Stand → Type 0
AreRecordsTaken limit comes [] old [] new = new ≡ old
AreRecordsTaken limit comes (r ∷ rs) old (f ∷ fs) new = (m : Stand) ×
    IsTakenWithin limit (comes r.1) r.0 old f m × AreRecordsTaken limit comes rs m fs new
AreRecordsTaken limit comes _ old _ new = ⊥

-- the name of a file that a record wrote, or tried to write
abbrev pub tried : Fate → List Text
tried (Ok name) = name ∷ []
tried (Err (unwritten name)) = name ∷ []
tried (Err _) = []

abbrev pub written_names : List Fate → List Text
written_names [] = []
written_names (f ∷ fs) = tried f ++ written_names fs

-- the name of a file that a record wrote
abbrev pub page_name : Fate → List Text
page_name (Ok name) = name ∷ []
page_name (Err failed) = []

abbrev pub page_names : List Fate → List Text
page_names [] = []
page_names (f ∷ fs) = page_name f ++ page_names fs

-- no two of the names are the same
abbrev pub AreApart : List Text → Type 0
AreApart [] = ⊤
AreApart (name ∷ names) = (list_any (bytes_eq name) names ≡ false) × AreApart names

-- a record whose page was written has its page in the file of its name
abbrev pub HasPage : Result Made Reason → Fate → Files → Type 0
HasPage (Ok made) (Ok name) files = (name ≡ made.name) × (files name ≡ holds made.text)
HasPage (Err why) (Ok name) files = ⊥
HasPage made (Err failed) files = ⊤

abbrev pub HavePages : (Result Pairs ErrorKind → Result Made Reason) → Records → List Fate → Files →
    Type 0
HavePages comes (r ∷ rs) (f ∷ fs) files = HasPage (comes r.1) f files × HavePages comes rs fs files
HavePages comes _ _ files = ⊤

-- a merge that begins over these files
abbrev pub IsMerge : Job → Nodes → Records → Files → List Fate → Stand → Type 0
IsMerge job pattern records files fates new = AreRecordsTaken job.has_limit
    (record_outcome job (Some pattern)) records (record { names = empty; files = files }) fates new

-- ---- the laws

-- no file is written twice
abbrev pub NeverTwice : Type 0
NeverTwice = (job : Job) (pattern : Nodes) (records : Records) (files : Files) (fates : List Fate)
    (new : Stand) → IsMerge job pattern records files fates new → AreApart (written_names fates)

-- at the end each page that was written is in its file
abbrev pub PagesStand : Type 0
PagesStand = (job : Job) (pattern : Nodes) (records : Records) (files : Files) (fates : List Fate)
    (new : Stand) → IsMerge job pattern records files fates new
    → HavePages (record_outcome job (Some pattern)) records fates new.files

-- no other file changes: one that is refused holds what it held
abbrev pub OthersStay : Type 0
OthersStay = (job : Job) (pattern : Nodes) (records : Records) (files : Files) (fates : List Fate)
    (new : Stand) → IsMerge job pattern records files fates new
    → (q : Text) → list_any (bytes_eq q) (page_names fates) ≡ false → new.files q ≡ files q
