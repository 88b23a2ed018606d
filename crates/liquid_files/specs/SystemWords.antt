-- What is said of a file that can't be read or written.
--     system_words kind      what the system says of a call that fails, as other tools write it;
--                         of memory that ran out what is said of it in a fault
--     unwritten_words kind      what is said of a file that can't be written
--     reason_words reason      the same of why a file has no text; none where its bytes are no text
use Rattle.std.specs.Prelude.{Option, Some, None, codes}
use Rattle.liquid_model.specs.Texts.{Text}
use Rattle.std.specs.declared.io.ErrorKind.{ErrorKind}
use Rattle.std.specs.declared.io.ErrorKind.TheVariants.{NotFound, PermissionDenied}
use Rattle.std.specs.declared.io.ErrorKind.TheVariants.{AlreadyExists, BrokenPipe, NotADirectory}
use Rattle.std.specs.declared.io.ErrorKind.TheVariants.{IsADirectory, ReadOnlyFilesystem}
use Rattle.std.specs.declared.io.ErrorKind.TheVariants.{FilesystemLoop, StorageFull}
use Rattle.std.specs.declared.io.ErrorKind.TheVariants.{QuotaExceeded, FileTooLarge}
use Rattle.std.specs.declared.io.ErrorKind.TheVariants.{InvalidFilename, InvalidInput}
use Rattle.std.specs.declared.io.ErrorKind.TheVariants.{ExecutableFileBusy, OutOfMemory}
use Rattle.liquid_files.specs.declared.unreadable.Reason.{Reason}
use Rattle.liquid_files.specs.declared.unreadable.Reason.TheVariants.{Missing, Folder}
use Rattle.liquid_files.specs.declared.unreadable.Reason.TheVariants.{NoRight, Other, Foreign}
use Rattle.liquid_files.specs.Foreign.{foreign_words}

abbrev pub system_words : ErrorKind → Text
system_words NotFound = codes "No such file or directory"
system_words PermissionDenied = codes "Permission denied"
system_words AlreadyExists = codes "File exists"
system_words IsADirectory = codes "Is a directory"
system_words NotADirectory = codes "Not a directory"
system_words StorageFull = codes "No space left on device"
system_words QuotaExceeded = codes "Disk quota exceeded"
system_words FileTooLarge = codes "File too large"
system_words ReadOnlyFilesystem = codes "Read-only file system"
system_words FilesystemLoop = codes "Too many levels of symbolic links"
system_words InvalidFilename = codes "File name too long"
system_words InvalidInput = codes "Invalid argument"
system_words ExecutableFileBusy = codes "Text file busy"
system_words BrokenPipe = codes "Broken pipe"
system_words OutOfMemory = codes "out of memory"
system_words _ = codes "Input/output error"

-- a file that is written needn't be there, so what the system misses is its folder
abbrev pub unwritten_words : ErrorKind → Text
unwritten_words NotFound = codes "its folder isn't there; make it first"
unwritten_words kind = system_words kind

abbrev pub reason_words : Reason → Option Text
reason_words Missing = Some (codes "No such file or directory")
reason_words Folder = Some (codes "Is a directory")
reason_words NoRight = Some (codes "Permission denied")
reason_words (Foreign foreign) = Some (foreign_words foreign)
reason_words (Other kind) = Some (system_words kind)
reason_words _ = None
