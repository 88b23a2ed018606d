-- The call that the words after the program's own make.
use Rattle.std.specs.Prelude.{List, [], ◌∷◌, ◌||◌, ◌==◌, cond, length, Option, Some, None}
use Rattle.std.specs.Prelude.{bytes_eq, codes}
use Rattle.liquid_model.specs.Texts.{Text}
use Rattle.liquid_core.specs.declared.missing_value.Missing.{Missing}
use Rattle.liquid_core.specs.declared.missing_value.Missing.TheVariants.{IsFault, IsNil}
use Rattle.liquid_folder.specs.declared.words.FolderCall.{FolderCall}

-- three paths, and what becomes of a missing value
pub record NamedFolders : Type 0 where
  pub folder : Text
  pub «data» : Text
  pub out : Text
  pub missing : Missing

abbrev pub folder_call_view : FolderCall → NamedFolders
folder_call_view c = record {
  folder = c.folder.now;
  «data» = c.«data».now;
  out = c.out.now;
  missing = c.missing;
}

-- what a word makes of a missing value
abbrev pub missing_named : Text → Option Missing
missing_named word = cond (bytes_eq word (codes "fault")) (Some IsFault)
    (cond (bytes_eq word (codes "nil")) (Some IsNil) None)

-- three paths, none of which is empty
abbrev pub folders_named : Missing → Text → Text → Text → Option NamedFolders
folders_named missing folder «data» out =
    cond (length folder == 0 || (length «data» == 0 || length out == 0)) None
    (Some (record { folder = folder; «data» = «data»; out = out; missing = missing }))

abbrev pub folders_where : Option Missing → Text → Text → Text → Option NamedFolders
folders_where None folder «data» out = None
folders_where (Some missing) folder «data» out = folders_named missing folder «data» out

-- FOLDER DATA OUT, where a missing value is a fault, and before them perhaps `--missing` and a word
abbrev pub folder_call : List Text → Option NamedFolders
folder_call (folder ∷ «data» ∷ out ∷ []) = folders_named IsFault folder «data» out
folder_call (option ∷ word ∷ folder ∷ «data» ∷ out ∷ []) =
    cond (bytes_eq option (codes "--missing"))
    (folders_where (missing_named word) folder «data» out) None
folder_call _ = None
