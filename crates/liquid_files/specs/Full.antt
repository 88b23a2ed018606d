-- A disk that takes no more files.
--     refuses_every_file kind      the disk, or the user's share of it, has no room for a write, or
--                                  the disk can only be read
use Rattle.std.specs.Prelude.{Bool, true, false}
use Rattle.std.specs.declared.io.ErrorKind.{ErrorKind}
use Rattle.std.specs.declared.io.ErrorKind.TheVariants.{StorageFull, QuotaExceeded}
use Rattle.std.specs.declared.io.ErrorKind.TheVariants.{ReadOnlyFilesystem}

abbrev pub refuses_every_file : ErrorKind → Bool
refuses_every_file StorageFull = true
refuses_every_file QuotaExceeded = true
refuses_every_file ReadOnlyFilesystem = true
refuses_every_file _ = false
