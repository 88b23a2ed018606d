-- The names of files.
--     joined_path folder inner      the path of what stands in a folder
--     suffix_parts name      the name and the suffix of its last part, where that has one
--     without_suffix name      the name without the suffix of its last part, where that has one
--     named_file word      the name and the file of a word NAME=FILE
use Rattle.std.specs.Prelude.{ℕ, Bool, ◌&&◌, ◌-◌, ◌==◌, not, cond, length, slice_index, nat_lt}
use Rattle.std.specs.Prelude.{[], ◌++◌, Option, Some, None, option_map, codes}
use Rattle.std.specs.Borrow.{Bor}
use Rattle.std.specs.List.{after_first, before_first, list_all, position_or_len}
use Rattle.std.specs.Path.{dot, slash, rsplit_once}
use Rattle.liquid_model.specs.Texts.{Text}

abbrev pub ends_with_slash : Text → Bool
ends_with_slash s = nat_lt 0 (length s) && (slice_index s (length s - 1) == slash)

abbrev pub joined_path : Text → Text → Text
joined_path folder inner = folder ++ (cond (ends_with_slash folder) [] (codes "/") ++ inner)

abbrev pub is_no_slash : ℕ → Bool
is_no_slash b = not (b == slash)

-- the suffix belongs to the last part, and something stands before it there
abbrev pub are_names : Text → Text → Bool
are_names stem suffix = not (length stem == 0) && (not (ends_with_slash stem)
    && list_all is_no_slash suffix)

abbrev pub if_names : Option (Text × Text) → Option (Text × Text)
if_names None = None
if_names (Some p) = cond (are_names p.0 p.1) (Some p) None

-- what stands before and after the last dot, where that begins a suffix
abbrev pub suffix_parts : Text → Option (Text × Text)
suffix_parts name = if_names (rsplit_once dot name)

abbrev pub without_suffix : Text → Option Text
without_suffix name = option_map (λ p. p.0) (suffix_parts name)

-- the texts before and after the first `=`
abbrev pub named_file : Text → Option (Text × Text)
named_file word = cond (nat_lt (position_or_len (λ b. b == 61) word) (length word))
    (Some (before_first (λ b. b == 61) word, after_first (λ b. b == 61) word)) None

abbrev pub parts_view : Option (Bor Text × Bor Text) → Option (Text × Text)
parts_view parts = option_map (λ p. (p.0.now, p.1.now)) parts
