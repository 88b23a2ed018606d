-- What a site that is built writes, and what it takes away.
--     names_before out files      the names of what was written before, by the list of it
--     site_settings places files listed before      what is set, in this order: the list of all
--       that was and will be written, unless it is that of what is built alone; what was written
--       and isn't built any more is taken away; each file that is built; the list of these
--     SiteIsWritten, SiteIsBegun      all of these are set; or those in front, or, without a
--       list, none
use Rattle.std.specs.Prelude.{◌≡◌, ◌⊎◌, cond, List, [], ◌∷◌, ◌++◌, map, codes, Option, Some, None}
use Rattle.std.specs.Prelude.{Result, Ok, Err}
use Rattle.liquid_model.specs.Maps.{listed}
use Rattle.liquid_model.specs.Texts.{Text}
use Rattle.liquid_files.specs.Files.{File, Files, gone, holds, unreadable, is_held}
use Rattle.liquid_site_build.specs.Written.{SiteFile, as_it_is, with_text}
use Rattle.liquid_site_round.specs.Settings.{FileSetting, IsFrontSet, all_set}
use Rattle.liquid_site_round.specs.WrittenNames.{list_text, names_listed}
use Rattle.liquid_site_round.specs.declared.place.BuiltFile.{BuiltFile}
use Rattle.liquid_site_round.specs.declared.place.BuiltFile.TheVariants as built

-- the name of the list, in the folder that is written to
abbrev pub list_name : Text
list_name = codes ".bikleinu-site"

-- ---- what was written before

abbrev pub names_or_line : Result (List Text) Text → Result (List Text) (Option Text)
names_or_line (Ok names) = Ok names
names_or_line (Err line) = Err (Some line)

abbrev pub names_of_list : File → Result (List Text) (Option Text)
names_of_list gone = Ok []
names_of_list (holds text) = names_or_line (names_listed text)
names_of_list unreadable = Err None

-- or the line that is no name, or nothing where the list can't be read
abbrev pub names_before : Text → Files → Result (List Text) (Option Text)
names_before out files = names_of_list (files (out ++ list_name))

-- ---- what is set

abbrev pub BuiltFiles : Type 0
BuiltFiles = List (Text × SiteFile)

abbrev pub built_file_view : BuiltFile → SiteFile
built_file_view built.AsItIs = as_it_is
built_file_view (built.Text text) = with_text text.now

abbrev pub built_names : BuiltFiles → List Text
built_names files = map (λ f. f.0) files

-- a file that is written as it is, is what the file of its name is in the site's folder
abbrev pub file_built : Text → Text → SiteFile → Files → File
file_built source name as_it_is files = files (source ++ name)
file_built source name (with_text text) files = holds text

abbrev pub placing : Text → Text → Text × SiteFile → FileSetting
placing source out f = (out ++ f.0, file_built source f.0 f.1)

abbrev pub placings : Text → Text → BuiltFiles → List FileSetting
placings source out files = map (placing source out) files

abbrev pub removal : Text → Text → Option SiteFile → List FileSetting
removal out name None = (out ++ name, λ _. gone) ∷ []
removal out name (Some made) = []

abbrev pub removals : Text → BuiltFiles → List Text → List FileSetting
removals out files [] = []
removals out files (n ∷ ns) = removal out n (listed files n) ++ removals out files ns

-- the list at this path, of these names
abbrev pub list_setting : Text → List Text → List FileSetting
list_setting list names = (list, λ _. holds (list_text names)) ∷ []

abbrev pub list_ahead : Text → BuiltFiles → List Text → Files → List FileSetting
list_ahead list files names before = cond
    (is_held (before list) (list_text (built_names files))) []
    (list_setting list (names ++ built_names files))

abbrev pub site_settings : Text → Text → BuiltFiles → List Text → Files → List FileSetting
site_settings source out files names before = list_ahead (out ++ list_name) files names before
    ++ removals out files names ++ placings source out files
    ++ list_setting (out ++ list_name) (built_names files)

abbrev pub SiteIsWritten : Text → Text → BuiltFiles → Files → Option Files → Type 0
SiteIsWritten source out files old new = (names : List Text) × (names_before out old ≡ Ok names) ×
    (new ≡ Some (all_set (site_settings source out files names old) old))

abbrev pub SiteIsBegun : Text → Text → BuiltFiles → Files → Option Files → Type 0
SiteIsBegun source out files old new = (new ≡ Some old) ⊎ ((names : List Text) ×
    (names_before out old ≡ Ok names) ×
    IsFrontSet (site_settings source out files names old) old new)
