-- What stands at a path, as it was found.
use Rattle.std.specs.Prelude.{string_bytes}
use Rattle.liquid_files.specs.Files.{File, gone, holds, unreadable}
use Rattle.liquid_site.specs.declared.take.FileState.{FileState}
use Rattle.liquid_site.specs.declared.take.FileState.TheVariants as found

abbrev pub file_state_view : FileState → File
file_state_view found.Gone = gone
file_state_view (found.Text text) = holds (string_bytes text)
file_state_view found.Unreadable = unreadable
