-- The parts of a path, one after another.
use Rattle.std.proofs.Common.{◌≡◌, List, [], ◌∷◌, ◌++◌, Option, Some, Bor, ap, ◌∙◌, sym, refl}
use Rattle.std.proofs.lemmas.List.{append_assoc}
use Rattle.liquid_yaml.specs.Bytes.{first_part, first_part_view, left_view, parts_left}
use Rattle.liquid_yaml.proofs.Turns.{parts_cut}
use Rattle.liquid_commands.specs.Words.{CommandWord}
use Rattle.liquid_commands.specs.Selections.{words_seen}

abbrev Cut : Type 0
Cut = Bor CommandWord × Option (Bor CommandWord)

words_push : (ps : List (Bor CommandWord)) (p : Bor CommandWord) → words_seen (ps ++ p ∷ []) ≡ words_seen ps ++ p.now ∷ []
words_push [] p = refl
words_push (q ∷ qs) p = ap (λ ws. q.now ∷ ws) (words_push qs p)

pub path_turn : (ps new : List (Bor CommandWord)) (left : Option (Bor CommandWord)) (text : Bor CommandWord) (p : Cut) (whole : List CommandWord) → left ≡ Some text → first_part_view p ≡ first_part 47 text.now
    → new ≡ ps ++ p.0 ∷ [] → words_seen ps ++ parts_left 47 (left_view left) ≡ whole → words_seen new ++ parts_left 47 (left_view p.1) ≡ whole
path_turn ps new left text p whole e f push inv =
    let rest = parts_left 47 (left_view p.1) in
    ap (λ qs. words_seen qs ++ rest) push
    ∙ ap (λ ws. ws ++ rest) (words_push ps p.0)
    ∙ append_assoc (words_seen ps) (p.0.now ∷ []) rest
    ∙ ap (λ ws. words_seen ps ++ ws) (sym (parts_cut 47 left text p e f))
    ∙ inv
