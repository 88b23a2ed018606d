-- What is printed of a record that has no page.
--     ends_merge report      no further page can be written, since the disk refuses every file
--     is_forbidden report      its file was refused for want of permission
--     in_a_row n b      how many in a row there are with the one after n of them, which is one
--                       of them or not
--     ends_the_row n      so many in a row, that the merge ends
use Rattle.std.specs.Prelude.{ℕ, ◌+◌, Bool, true, false, min, nat_le}
use Rattle.std.specs.declared.io.ErrorKind.TheVariants.{PermissionDenied}
use Rattle.liquid_files.specs.Full.{refuses_every_file}
use Rattle.liquid_files.specs.declared.disk.DiskFault.{DiskFault}
use Rattle.liquid_files.specs.declared.disk.DiskFault.TheVariants.{Refused}
use Rattle.liquid_records.specs.declared.merge.Failure.TheVariants.{Unwritten}
use Rattle.bikleinu.specs.declared.report.Report.{Report}
use Rattle.bikleinu.specs.declared.report.Report.TheVariants.{NoFile}

abbrev pub takes_no_file : DiskFault → Bool
takes_no_file (Refused kind) = refuses_every_file kind
takes_no_file _ = false

abbrev pub ends_merge : Report → Bool
ends_merge (NoFile (Unwritten name fault)) = takes_no_file fault
ends_merge _ = false

abbrev pub lacks_permission : DiskFault → Bool
lacks_permission (Refused PermissionDenied) = true
lacks_permission _ = false

abbrev pub is_forbidden : Report → Bool
is_forbidden (NoFile (Unwritten name fault)) = lacks_permission fault
is_forbidden _ = false

abbrev pub in_a_row : ℕ → Bool → ℕ
in_a_row n true = min (n + 1) 18446744073709551615
in_a_row n false = 0

-- ten of them
abbrev pub ends_the_row : ℕ → Bool
ends_the_row n = nat_le 10 n
