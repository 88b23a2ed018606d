-- Names of files: each names one file below a folder, and no other name is the same file's.
--     path_parts name      its parts between slashes
use Rattle.std.specs.Prelude.{ℕ, ◌==◌, Bool, not, cond, List, [], ◌∷◌, ◌++◌}
use Rattle.std.specs.List.{list_all}
use Rattle.liquid_model.specs.Texts.{Text}

-- the parts of a text, after what is read of the first of them
abbrev pub path_parts_after : Text → Text → List Text
path_parts_after part [] = part ∷ []
path_parts_after part (b ∷ bs) =
    cond (b == 47) (part ∷ path_parts_after [] bs) (path_parts_after (part ++ b ∷ []) bs)

abbrev pub path_parts : Text → List Text
path_parts name = path_parts_after [] name

-- nothing but dots: no text, `.`, `..` or more of them
abbrev pub only_dots : Text → Bool
only_dots part = list_all (λ b. b == 46) part

-- a part that names a file or a folder
abbrev pub is_path_part : Text → Bool
is_path_part part = not (only_dots part)

-- each part names a file or a folder
abbrev pub is_file_name : Text → Bool
is_file_name name = list_all is_path_part (path_parts name)
