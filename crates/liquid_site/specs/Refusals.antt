-- Which of the files that changed are refused, and why.
use Rattle.std.specs.Prelude.{◌≡◌, List, [], ◌∷◌, ◌++◌, Option, Some, None, option_to_list, Result}
use Rattle.std.specs.Prelude.{Ok, Err, string_bytes}
use Rattle.liquid_model.specs.Data.{Pairs}
use Rattle.liquid_model.specs.Texts.{Text}
use Rattle.liquid_model.specs.declared.error.ErrorKind.{ErrorKind}
use Rattle.liquid_evaluation.specs.Tree.{Nodes}
use Rattle.liquid_parser.specs.Parsing.{IsOnlyTree, HasNoTree, IsOfSource}
use Rattle.liquid_language.specs.declared.registry.Language.{Language}
use Rattle.liquid_json.specs.Json.{data_of}
use Rattle.liquid_files.specs.Files.{File, Files, gone, holds, unreadable}
use Rattle.liquid_site.specs.Paths.{changed_file_path}
use Rattle.liquid_site.specs.declared.folder.Changed.{Changed}
use Rattle.liquid_site.specs.declared.folder.Changed.TheVariants.{Page, Partial, Data}
use Rattle.liquid_site.specs.declared.folder.Folder.{Folder}
use Rattle.liquid_site.specs.declared.take.RefusedFile.{RefusedFile}
use Rattle.liquid_site.specs.declared.take.RefusalReason.{RefusalReason}
use Rattle.liquid_site.specs.declared.take.RefusalReason.TheVariants.{Unreadable, Fault}

-- the text of a template: none is refused that is a template, and one that is none is, by a fault
-- of a source
abbrev pub RefusesSource : Language → Text → Option RefusalReason → Type 0
RefusesSource l source None = (t : Nodes) × IsOnlyTree l t source
RefusesSource l source (Some (Fault e)) = HasNoTree l source × IsOfSource e.kind
RefusesSource l source (Some Unreadable) = ⊥

-- a template's file: one that is gone is not refused, and one that can't be read is
abbrev pub RefusesTemplate : Language → File → Option RefusalReason → Type 0
RefusesTemplate l (holds source) why = RefusesSource l source why
RefusesTemplate l gone why = why ≡ None
RefusesTemplate l unreadable why = why ≡ Some Unreadable

-- what a text gives as data: a text that gives none is refused, by the fault that it has
abbrev pub RefusesJson : Result Pairs ErrorKind → Option RefusalReason → Type 0
RefusesJson (Ok «data») why = why ≡ None
RefusesJson (Err kind) (Some (Fault e)) = e.kind ≡ kind
RefusesJson (Err kind) (Some Unreadable) = ⊥
RefusesJson (Err kind) None = ⊥

-- the data's file: also one that is gone is refused
abbrev pub RefusesData : File → Option RefusalReason → Type 0
RefusesData (holds source) why = RefusesJson (data_of source) why
RefusesData gone why = why ≡ Some Unreadable
RefusesData unreadable why = why ≡ Some Unreadable

-- a changed file, by what stands at its path: why it is refused, or none where it is not
abbrev pub RefusesFile : Language → Changed → File → Option RefusalReason → Type 0
RefusesFile l (Page name) file why = RefusesTemplate l file why
RefusesFile l (Partial name) file why = RefusesTemplate l file why
RefusesFile l Data file why = RefusesData file why

-- what a round says of a changed file: its path with why it is refused, or nothing
abbrev pub IsRefusal : Language → Folder → Files → Changed → Option RefusedFile → Type 0
IsRefusal l folder files changed None = RefusesFile l changed
    (files (changed_file_path folder changed)) None
IsRefusal l folder files changed (Some refusal) =
    (string_bytes refusal.path ≡ changed_file_path folder changed) ×
    RefusesFile l changed (files (changed_file_path folder changed)) (Some refusal.why)

-- what a round says of all changed files, one after another
abbrev pub AreRefusals : Language → Folder → Files → List Changed → List RefusedFile → Type 0
AreRefusals l folder files [] refused = refused ≡ []
AreRefusals l folder files (changed ∷ rest) refused =
    (refusal : Option RefusedFile) × (later : List RefusedFile) ×
    IsRefusal l folder files changed refusal × AreRefusals l folder files rest later ×
    (refused ≡ option_to_list refusal ++ later)
