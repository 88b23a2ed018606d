-- What a site holds after files changed: what follows from what stands at their paths.
use Rattle.std.specs.Prelude.{◌≡◌, ◌⊎◌, List, [], ◌∷◌, Result, Ok, Err, string_bytes}
use Rattle.liquid_model.specs.Data.{Pairs}
use Rattle.liquid_model.specs.declared.error.ErrorKind.{ErrorKind}
use Rattle.liquid_core.specs.Held.{map_of}
use Rattle.liquid_evaluation.specs.Tree.{Nodes}
use Rattle.liquid_parser.specs.Parsing.{IsOnlyTree, HasNoTree}
use Rattle.liquid_language.specs.declared.registry.Language.{Language}
use Rattle.liquid_json.specs.Json.{data_of}
use Rattle.liquid_site.specs.Contents.{Contents}
use Rattle.liquid_site.specs.Steps.{Step, set_page, remove_page, set_partial, remove_partial}
use Rattle.liquid_site.specs.Steps.{stepped}
use Rattle.liquid_files.specs.Files.{File, Files, gone, holds, unreadable}
use Rattle.liquid_site.specs.Paths.{changed_file_path}
use Rattle.liquid_site.specs.declared.folder.Changed.{Changed}
use Rattle.liquid_site.specs.declared.folder.Changed.TheVariants.{Page, Partial, Data}
use Rattle.liquid_site.specs.declared.folder.Folder.{Folder}

-- a template's file: its text is set, and it is removed where it is gone. A text that is no
-- template, or a file that can't be read, changes nothing
abbrev pub TakesTemplate : Language → (Nodes → Step) → Step → File → Contents → Contents → Type 0
TakesTemplate l set remove (holds source) c d =
    ((t : Nodes) × IsOnlyTree l t source × (d ≡ stepped (set t) c)) ⊎ (HasNoTree l source × (d ≡ c))
TakesTemplate l set remove gone c d = d ≡ stepped remove c
TakesTemplate l set remove unreadable c d = d ≡ c

-- the contents with these data; a fault changes nothing
abbrev pub contents_with_data : Result Pairs ErrorKind → Contents → Contents
contents_with_data (Ok «data») c = record c { «data» = map_of «data» }
contents_with_data (Err kind) c = c

-- the data's file: all that it gives, and nothing changes where it gives no data, is gone or can't
-- be read
abbrev pub TakesData : File → Contents → Contents → Type 0
TakesData (holds source) c d = d ≡ contents_with_data (data_of source) c
TakesData gone c d = d ≡ c
TakesData unreadable c d = d ≡ c

abbrev pub TakesFile : Language → Changed → File → Contents → Contents → Type 0
TakesFile l (Page name) file = TakesTemplate l (set_page (string_bytes name))
    (remove_page (string_bytes name)) file
TakesFile l (Partial name) file = TakesTemplate l (set_partial (string_bytes name))
    (remove_partial (string_bytes name)) file
TakesFile l Data file = TakesData file

-- the files are taken one after another
abbrev pub AreTaken : Language → Folder → Files → List Changed → Contents → Contents → Type 0
AreTaken l folder files [] c d = d ≡ c
AreTaken l folder files (changed ∷ rest) c d = (m : Contents) ×
    TakesFile l changed (files (changed_file_path folder changed)) c m ×
    AreTaken l folder files rest m d
