-- Why a file has no text.
--     reason_of kind      where the system refuses to read it by this kind
use Rattle.std.specs.declared.io.ErrorKind.{ErrorKind}
use Rattle.std.specs.declared.io.ErrorKind.TheVariants.{NotFound, IsADirectory, PermissionDenied}
use Rattle.liquid_files.specs.declared.unreadable.Reason.{Reason}
use Rattle.liquid_files.specs.declared.unreadable.Reason.TheVariants.{Missing, Folder, NoRight}
use Rattle.liquid_files.specs.declared.unreadable.Reason.TheVariants.{Other}

abbrev pub reason_of : ErrorKind → Reason
reason_of NotFound = Missing
reason_of IsADirectory = Folder
reason_of PermissionDenied = NoRight
reason_of kind = Other kind
