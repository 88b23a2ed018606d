-- What is put into a file.
--     filled_with content files      what the file is then, by the files before: the text, or what
--       the file at another path is
--     is_of_pages content      it is no copy of a part
use Rattle.std.specs.Prelude.{Bool, true, not}
use Rattle.liquid_files.specs.Files.{File, Files, holds}
use Rattle.liquid_files.specs.Parts.{is_part_path}
use Rattle.liquid_files.specs.declared.system.Content.{Content}
use Rattle.liquid_files.specs.declared.system.Content.TheVariants.{Text, Copy}

abbrev pub filled_with : Content → Files → File
filled_with (Text text) files = holds text.now
filled_with (Copy path) files = files path.now

abbrev pub is_of_pages : Content → Bool
is_of_pages (Text text) = true
is_of_pages (Copy path) = not (is_part_path path.now)
