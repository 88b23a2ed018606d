-- Why the program ends before its input does, and the status that it exits with when it fails.
--     failure_status failure      2 for a wrong call, else 1
--     IsMemoryStop stop      memory ran out
--     IsMissing path stop, IsInside path stop, IsUnreadable path stop      it is about this path,
--                                         unless memory ran out
--     IsBadData path text fault stop      the data at this path, of this text, has this fault,
--                                         unless memory ran out
use Rattle.std.specs.Prelude.{◌≡◌, ℕ, Option, string_bytes, ⊤}
use Rattle.std.specs.declared.io.ErrorKind.{ErrorKind as IoKind}
use Rattle.liquid_files.specs.declared.unreadable.Reason.{Reason}
use Rattle.liquid_model.specs.Texts.{Text}
use Rattle.liquid_model.specs.declared.error.Error.{Error}
use Rattle.liquid_model.specs.declared.error.ErrorKind.TheVariants.{Memory}
use Rattle.liquid_folder.specs.declared.failure.Failure.{Failure}
use Rattle.liquid_folder.specs.declared.failure.Failure.TheVariants.{Usage, Stopped}
use Rattle.liquid_folder.specs.declared.stop.FolderStop.{FolderStop}
use Rattle.liquid_folder.specs.declared.stop.FolderStop.TheVariants.{Missing, Inside}
use Rattle.liquid_folder.specs.declared.stop.FolderStop.TheVariants.{Unreadable, Fault, Input}
use Rattle.liquid_folder.specs.declared.stop.FolderStop.TheVariants.{BadData, Output}

abbrev pub failure_status : Failure → ℕ
failure_status Usage = 2
failure_status (Stopped stop) = 1

abbrev pub IsMemoryStop : FolderStop → Type 0
IsMemoryStop (Fault e) = e.kind ≡ Memory
IsMemoryStop _ = ⊥

abbrev pub IsMissing : Text → FolderStop → Type 0
IsMissing path (Missing p) = string_bytes p ≡ path
IsMissing path stop = IsMemoryStop stop

abbrev pub IsInside : Text → FolderStop → Type 0
IsInside path (Inside p) = string_bytes p ≡ path
IsInside path stop = IsMemoryStop stop

abbrev pub IsBadData : Text → Text → Error → FolderStop → Type 0
IsBadData path text fault (BadData p t e) =
    (string_bytes p ≡ path) × (string_bytes t ≡ text) × (e ≡ fault)
IsBadData path text fault stop = IsMemoryStop stop

abbrev pub IsUnreadable : Text → FolderStop → Type 0
IsUnreadable path (Unreadable p reason) = string_bytes p ≡ path
IsUnreadable path stop = IsMemoryStop stop

-- where it is about a path that can't be read, this is why
abbrev pub HasReason : Option Reason → FolderStop → Type 0
HasReason reason (Unreadable p why) = why ≡ reason
HasReason reason stop = ⊤

-- standard input can't be read for this reason, unless memory ran out
abbrev pub IsInput : IoKind → FolderStop → Type 0
IsInput kind (Input found) = found ≡ kind
IsInput kind stop = IsMemoryStop stop
