-- The paths of a site's files.
use Rattle.std.specs.Prelude.{◌++◌, string_bytes}
use Rattle.liquid_model.specs.Texts.{Text}
use Rattle.liquid_site.specs.declared.folder.Changed.{Changed}
use Rattle.liquid_site.specs.declared.folder.Changed.TheVariants.{Page, Partial, Data}
use Rattle.liquid_site.specs.declared.folder.Folder.{Folder}

abbrev pub changed_file_path : Folder → Changed → Text
changed_file_path folder (Page name) = string_bytes folder.pages ++ string_bytes name
changed_file_path folder (Partial name) = string_bytes folder.partials ++ string_bytes name
changed_file_path folder Data = string_bytes folder.«data»
