-- Paths of a site's files, and the names that the program leaves out.
--     steps path      the root, where the path begins with one, and the names between its slashes
--     IsFileIn folder path name      the path leads to the file of this name right in the folder
--     is_no_file_name step      the root, `.` or `..`
--     is_skipped_file name      a file that a system or an editor keeps for itself
use Rattle.std.specs.Prelude.{◌≡◌, ◌==◌, ◌-◌, Bool, ◌||◌, ◌&&◌, List, [], ◌∷◌, ◌++◌, length}
use Rattle.std.specs.Prelude.{slice_index, cond, nat_lt, bytes_eq}
use Rattle.std.specs.Path.{path_components, root_dir, cur_dir, parent_dir, dot}
use Rattle.liquid_model.specs.Texts.{Text}

-- the steps of a path but for a `.` in front
abbrev pub without_here : List Text → List Text
without_here [] = []
without_here (step ∷ more) = cond (bytes_eq step cur_dir) more (step ∷ more)

-- the root, where the path begins with one, and the names between its slashes. A `.` is no name,
-- and slashes that follow one another have no name between them
abbrev pub steps : Text → List Text
steps path = without_here (path_components path)

abbrev pub IsFileIn : Text → Text → Text → Type 0
IsFileIn folder path name = steps path ≡ steps folder ++ name ∷ []

-- a step that no file has for a name
abbrev pub is_no_file_name : Text → Bool
is_no_file_name step = bytes_eq step root_dir || bytes_eq step cur_dir || bytes_eq step parent_dir

-- a name that begins with a `.` or ends in `~`
abbrev pub is_skipped_file : Text → Bool
is_skipped_file name = nat_lt 0 (length name)
    && (slice_index name 0 == dot || slice_index name (length name - 1) == 126)
