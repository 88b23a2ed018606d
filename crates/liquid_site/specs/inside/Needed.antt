-- A page that had to be written.
use Rattle.std.specs.Prelude.{◌≡◌, Some, false, ⊤, MatchBool, option_map, string_bytes}
use Rattle.liquid_model.specs.ErrorKinds.{is_memory}
use Rattle.liquid_model.specs.Texts.{Text}
use Rattle.liquid_model.specs.declared.error.Error.{Error}
use Rattle.liquid_files.specs.Files.{File, is_held}
use Rattle.liquid_files.specs.declared.disk.DiskFault.{DiskFault}
use Rattle.liquid_site.specs.Written.{unwritten_message}

-- a file that isn't written held another text
abbrev pub NeededUnlessMemory : File → Text → Error → Type 0
NeededUnlessMemory file text e = MatchBool (is_memory e.kind) ⊤ (is_held file text ≡ false)

-- the message of a file that isn't written has its path, and why
abbrev pub TellsWhyUnlessMemory : Text → Error → Type 0
TellsWhyUnlessMemory path e = MatchBool (is_memory e.kind) ⊤ ((why : DiskFault) ×
    (option_map string_bytes e.message ≡ Some (unwritten_message path why)))
