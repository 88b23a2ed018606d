-- The parts of a path between its slashes.
--     hidden_names path      how many of them begin with a dot
--     written_hidden_names pattern      how many begin with a dot that stands outside of tags
use Rattle.std.specs.Prelude.{ℕ, ◌+◌, ◌==◌, ◌&&◌, ◌||◌, Bool, true, not, cond, [], ◌∷◌}
use Rattle.liquid_model.specs.Texts.{Text}

-- of the rest of a path, at the beginning of a part or within one
abbrev pub hidden_names_from : Bool → Text → ℕ
hidden_names_from begins [] = 0
hidden_names_from begins (b ∷ bs) =
    cond (begins && b == 46) 1 0 + hidden_names_from (b == 47) bs

abbrev pub hidden_names : Text → ℕ
hidden_names path = hidden_names_from true path

-- whether what follows a byte stands outside of tags, where it does or doesn't itself
abbrev pub is_written_after : Bool → ℕ → Bool
is_written_after written b = not (b == 123) && (written || b == 125)

-- of the rest of a pattern, outside of tags or in one, at the beginning of a part or within one
abbrev pub written_names_from : Bool → Bool → Text → ℕ
written_names_from written begins [] = 0
written_names_from written begins (b ∷ bs) = cond (begins && b == 46) 1 0
    + written_names_from (is_written_after written b) (is_written_after written b && b == 47) bs

abbrev pub written_hidden_names : Text → ℕ
written_hidden_names pattern = written_names_from true true pattern
