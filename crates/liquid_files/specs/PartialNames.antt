-- Names of partials, each with the place of its file.
--     folder_names files      the names of the files of a folder
--     place_named name names      the place of the last file of a name
--     place_of_liquid name names      of the last whose name has `.liquid` after this
use Rattle.std.specs.Prelude.{ℕ, ◌-◌, nat_le, Bool, false, ◌&&◌, cond, List, [], ◌∷◌, ◌++◌, length}
use Rattle.std.specs.Prelude.{take, drop, map, codes, bytes_eq, Option, Some, None, String}
use Rattle.std.specs.Prelude.{string_bytes}
use Rattle.std.specs.declared.alloc.Global.{Global}
use Rattle.liquid_model.specs.Texts.{Text}
use Rattle.liquid_files.specs.FileNames.{without_suffix}
use Rattle.liquid_files.specs.declared.partial_names.PartialNames.{PartialNames}

abbrev pub Places : Type 0
Places = List (Text × ℕ)

abbrev pub one_stem : ℕ → Option Text → Places
one_stem place None = []
one_stem place (Some stem) = (stem, place) ∷ []

-- the files that have a suffix, without it
abbrev pub stems_of : Places → Places
stems_of [] = []
stems_of (file ∷ files) = one_stem file.1 (without_suffix file.0) ++ stems_of files

-- a whole name stands after those that lost their suffix, so it counts before them
abbrev pub folder_names : Places → Places
folder_names files = stems_of files ++ files

-- a name with `.liquid` after it
abbrev pub is_liquid : Text → Text → Bool
is_liquid known name = cond (nat_le 7 (length known))
    (bytes_eq (take (length known - 7) known) name
    && bytes_eq (drop (length known - 7) known) (codes ".liquid")) false

-- the last whose name passes the test counts, or what was found before
abbrev pub place_by : (Text → Bool) → Option ℕ → Places → Option ℕ
place_by test found [] = found
place_by test found (p ∷ ps) = place_by test (cond (test p.0) (Some p.1) found) ps

abbrev pub place_named : Text → Places → Option ℕ
place_named name names = place_by (λ known. bytes_eq known name) None names

abbrev pub place_of_liquid : Text → Places → Option ℕ
place_of_liquid name names = place_by (λ known. is_liquid known name) None names

abbrev pub file_places : List (String Global × ℕ) → Places
file_places files = map (λ f. (string_bytes f.0, f.1)) files

abbrev pub names_of : PartialNames → Places
names_of n = file_places n.names.items
