-- The reading of a file's name, byte by byte, and the rule.
use Rattle.std.specs.Prelude.{◌≡◌, ◌==◌, ◌&&◌, Bool, true, false, not, cond, List, [], ◌∷◌, ◌++◌}
use Rattle.std.specs.List.{list_all}
use Rattle.std.proofs.lemmas.List.Folds.{list_all-append}
use mathlib.Core.Path.{refl, sym, ap, ◌∙◌}
use Rattle.liquid_model.specs.Texts.{Text}
use Rattle.liquid_records.specs.FileNames.{path_parts_after, only_dots, is_path_part}
use Rattle.liquid_records.specs.inside.Dots.{ends_well}

and_true : (b : Bool) → b && true ≡ b
and_true true = refl
and_true false = refl

-- a part with one more byte
one_more : (part : Text) (b : _) → only_dots (part ++ b ∷ []) ≡ (only_dots part && b == 46)
one_more part b = list_all-append (λ x. x == 46) part (b ∷ []) ∙ ap (λ t. only_dots part && t) (and_true (b == 46))

pub read_after : (part bs : Text) → ends_well (only_dots part) bs ≡ list_all is_path_part (path_parts_after part bs)
read_after part [] = sym (and_true (not (only_dots part)))
read_after part (b ∷ bs) = at (b == 47) (read_after [] bs) (ap (λ t. ends_well t bs) (sym (one_more part b)) ∙ read_after (part ++ b ∷ []) bs)
  where
    ended : (dots : Bool) → ends_well true bs ≡ list_all is_path_part (path_parts_after [] bs) → cond dots false (ends_well true bs) ≡ (not dots && list_all is_path_part (path_parts_after [] bs))
    ended true h = refl
    ended false h = h

    at : (slash : Bool) → ends_well true bs ≡ list_all is_path_part (path_parts_after [] bs) → ends_well (only_dots part && b == 46) bs ≡ list_all is_path_part (path_parts_after (part ++ b ∷ []) bs)
        → cond slash (cond (only_dots part) false (ends_well true bs)) (ends_well (only_dots part && b == 46) bs) ≡ list_all is_path_part (cond slash (part ∷ path_parts_after [] bs) (path_parts_after (part ++ b ∷ []) bs))
    at true h k = ended (only_dots part) h
    at false h k = k
