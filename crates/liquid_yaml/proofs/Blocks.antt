-- Lines of a text.
use Rattle.std.proofs.Common.{◌≡◌, ℕ, List, [], ◌∷◌, ◌++◌, ◌+◌, ◌-◌, ◌==◌, Bool, Bor, Option, Some, None, drop, length, map, option_map, ap, refl, sym, ◌∙◌}
use Rattle.std.proofs.lemmas.List.{length-map}
use Rattle.std.proofs.lemmas.Option.{slice_get-map}
use Rattle.std.specs.List.{slice_get}
use Rattle.std.specs.Option.{option_copied}
use Rattle.liquid_model.specs.Texts.{Text}
use Rattle.liquid_yaml.specs.Blocks.{ends_blank, gap, is_blank_line, joined_text}

abbrev now : Bor Text → Text
now l = l.now

pub line_push : (ls : List (Bor Text)) (l : Bor Text) → map (λ (x : Bor Text). x.now) (ls ++ l ∷ []) ≡ map (λ (x : Bor Text). x.now) ls ++ l.now ∷ []
line_push [] l = refl
line_push (x ∷ ls) l = ap (λ rest. x.now ∷ rest) (line_push ls l)

pub blank_last : (ls : List (Bor Text)) (last : Option (Bor (Bor Text))) (line : Bor (Bor Text)) (r : Bool) → last ≡ Some line → option_copied last ≡ slice_get ls (length ls - 1) → r ≡ (length line.now.now == 0)
    → r ≡ ends_blank (map now ls)
blank_last ls last line r e copied empty =
    let found : slice_get ls (length ls - 1) ≡ Some line.now = sym copied ∙ ap option_copied e in
    let mapped : slice_get (map now ls) (length ls - 1) ≡ Some line.now.now = slice_get-map now ls (length ls - 1) ∙ ap (option_map now) found in
    empty ∙ sym (ap (λ n. is_blank_line (slice_get (map now ls) (n - 1))) (length-map ls now) ∙ ap is_blank_line mapped)
