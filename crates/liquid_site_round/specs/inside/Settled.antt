-- What was made of one file, as an outcome of the whole; and the file of a list that was read.
use Rattle.std.specs.Prelude.{Bool, true, false, [], Option, Some, None, Result, Ok, Err, String}
use Rattle.std.specs.Prelude.{string_bytes}
use Rattle.std.specs.declared.alloc.Global.{Global}
use Rattle.liquid_model.specs.Texts.{Text}
use Rattle.liquid_files.specs.Files.{File, gone, holds, unreadable}
use Rattle.liquid_files.specs.declared.disk.DiskFault.{DiskFault}
use Rattle.liquid_files.specs.declared.disk.DiskFault.TheVariants as fault
use Rattle.liquid_site_round.specs.declared.writing.SiteStop.{SiteStop}
use Rattle.liquid_site_round.specs.declared.writing.SiteStop.TheVariants as stop

abbrev pub settled : String Global → Result (Unit {0}) DiskFault → Result (Unit {0}) SiteStop
settled path (Ok u) = Ok u
settled path (Err fault.Memory) = Err stop.Memory
settled path (Err why) = Err (stop.Refused path why)

abbrev pub list_file : Option (String Global) → File
list_file None = gone
list_file (Some text) = holds (string_bytes text)

abbrev pub is_gone : File → Bool
is_gone gone = true
is_gone (holds text) = false
is_gone unreadable = false

abbrev pub held_text : Option (String Global) → Text
held_text None = []
held_text (Some text) = string_bytes text
