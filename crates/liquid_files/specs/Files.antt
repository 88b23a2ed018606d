-- Files by their paths, and what reading and writing one does.
use Rattle.std.specs.Prelude.{◌≡◌, cond, bytes_eq, Bool, false, Option, Some, None, Result, Ok, Err}
use Rattle.std.specs.Prelude.{⊤, String, string_bytes}
use Rattle.std.specs.declared.alloc.Global.{Global}
use Rattle.liquid_model.specs.Texts.{Text}
use Rattle.liquid_files.specs.declared.disk.DiskFault.{DiskFault}
use Rattle.liquid_files.specs.declared.disk.DiskFault.TheVariants.{Memory, Refused, Protected}

-- what stands at a path: no file, a file with a text, or one that can't be read
pub data File : Type 0 where
  gone : File
  holds : Text → File
  unreadable : File

abbrev pub Files : Type 0
Files = Text → File

-- the files with another one at a path
unfoldable pub with_file : Files → Text → File → Files
with_file files path file q = cond (bytes_eq path q) file (files q)

-- what reading a file answers, unless memory ran out
abbrev pub IsFound : File → Result (Option (String Global)) DiskFault → Type 0
IsFound file (Ok None) = file ≡ gone
IsFound file (Ok (Some text)) = file ≡ holds (string_bytes text)
IsFound file (Err Memory) = ⊤
IsFound file (Err (Refused kind)) = file ≡ unreadable
IsFound file (Err (Protected why)) = ⊥

-- what setting the file at a path leaves: that file there and all other files, or, if it is
-- refused, all files as they were
abbrev pub IsSet : {E : Type 0} → Text → File → Files → Result (Unit {0}) E → Option Files → Type 0
IsSet path file old (Ok u) new = new ≡ Some (with_file old path file)
IsSet path file old (Err e) new = new ≡ Some old

-- what writing a text at a path leaves
abbrev pub IsPut : Text → Text → Files → Result (Unit {0}) DiskFault → Option Files → Type 0
IsPut path text old result new = IsSet path (holds text) old result new

-- whether a file holds this text
abbrev pub is_held : File → Text → Bool
is_held (holds held) text = bytes_eq held text
is_held _ text = false
