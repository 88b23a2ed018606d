-- Pages that are written beside their places before they take them, in files called parts.
--     is_part_path path      the path is one of a part
--     files_below front story      the files by their names after a front, without parts
--     IsKept old new      no file but parts changed, at any moment
--     TakesPlace path held old new      the file at a path is what this says of the files before,
--       a text, a copy or nothing; at each moment it was that or as before, and no other file but
--       parts changed
use Rattle.std.specs.Prelude.{◌≡◌, ◌⊎◌, ◌++◌, cond, codes, nat_eq, Bool}
use Rattle.std.specs.List.{ends_with}
use Rattle.liquid_model.specs.Texts.{Text}
use Rattle.liquid_files.specs.Files.{File, Files, unreadable, with_file}
use Rattle.liquid_files.specs.Stories.{Since, Story}

abbrev pub is_part_path : Text → Bool
is_part_path path = ends_with nat_eq path (codes ".bikleinu-part")

-- the files, of which parts can't be read
unfoldable pub without_parts : Files → Files
without_parts files path = cond (is_part_path path) unreadable (files path)

abbrev pub files_below : Text → Story → Files
files_below front story name = without_parts story.now (front ++ name)

abbrev pub IsKept : Story → Story → Type 0
IsKept old new = (without_parts new.now ≡ without_parts old.now)
    × Since (λ files. without_parts files ≡ without_parts old.now) old new

-- the files without parts, with a page in its file
abbrev pub with_page : Text → (Files → File) → Story → Files
with_page path held story =
    with_file (without_parts story.now) path (held (without_parts story.now))

abbrev pub TakesPlace : Text → (Files → File) → Story → Story → Type 0
TakesPlace path held old new = (without_parts new.now ≡ with_page path held old)
    × Since (λ files. (without_parts files ≡ without_parts old.now)
    ⊎ (without_parts files ≡ with_page path held old)) old new
