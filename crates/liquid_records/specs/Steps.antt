-- A merge, record after record: which names came before, and what becomes of a record and of the
-- files.
--     IsRecordStep n made names fate after      what became of record n, and the names after it
--     IsStepWithin limit n made names fate after      the same, or a limit ended its page
--     Leaves made fate old new      the files after it
use Rattle.std.specs.Prelude.{◌≡◌, ◌⊎◌, ℕ, Bool, true, Option, Some, None, Result, Ok, Err}
use Rattle.liquid_model.specs.Maps.{Map, insert}
use Rattle.liquid_model.specs.Texts.{Text}
use Rattle.liquid_files.specs.Files.{Files, holds, with_file}
use Rattle.liquid_records.specs.Records.{Made, Reason, limited}

-- the names that came before, each with the number of its record
abbrev pub EarlierNames : Type 0
EarlierNames = Map ℕ

-- why a record's page is in no file
pub data Failed : Type 0 where
  -- there is no page
  no_page : Reason → Failed
  -- the name is that of the page of an earlier record, which has this number
  again : Text → ℕ → Failed
  -- the disk refuses the file
  unwritten : Text → Failed

-- what became of a record: its page is in the file of this name, or why it is in none
abbrev pub Fate : Type 0
Fate = Result Text Failed

-- the page was to be written: it is in its file, or the disk refused it
abbrev pub IsTried : Text → Fate → Type 0
IsTried name fate = (fate ≡ Ok name) ⊎ (fate ≡ Err (unwritten name))

-- a page is written only under a name that didn't come before
abbrev pub IsNamed : ℕ → Text → Option ℕ → EarlierNames → Fate → EarlierNames → Type 0
IsNamed n name (Some before) names fate after = (fate ≡ Err (again name before)) × (after ≡ names)
IsNamed n name None names fate after = IsTried name fate × (after ≡ insert names name n)

abbrev pub IsRecordStep : ℕ → Result Made Reason → EarlierNames → Fate → EarlierNames → Type 0
IsRecordStep n (Err why) names fate after = (fate ≡ Err (no_page why)) × (after ≡ names)
IsRecordStep n (Ok made) names fate after = IsNamed n made.name (names made.name) names fate after

-- the same, or a limit ended its page, where there is one
abbrev pub IsStepWithin : Bool → ℕ → Result Made Reason → EarlierNames → Fate → EarlierNames →
    Type 0
IsStepWithin limit n made names fate after = IsRecordStep n made names fate after
    ⊎ ((limit ≡ true) × IsRecordStep n (Err limited) names fate after)

-- the file of a page that was written holds the page, and no other file changes
abbrev pub Leaves : Result Made Reason → Fate → Files → Option Files → Type 0
Leaves (Ok made) (Ok name) old new = new ≡ Some (with_file old made.name (holds made.text))
Leaves made fate old new = new ≡ Some old
