-- A text may be cut after the `?` of a member's name.
use Rattle.std.proofs.Common.{◌≡◌, ℕ, ◌+◌, ◌∷◌, [], List, ◌++◌, drop, get_or, length, take, Some, arith, ap, refl, subst, sym, ◌∙◌}
use Rattle.std.proofs.Common.{append_assoc}
use Rattle.std.specs.Str.{IsUtf8, IsCharBoundary}
use Rattle.std.proofs.lemmas.List.{length-append}
use Rattle.std.proofs.lemmas.Str.{IsCharBoundary-after_ascii}
use Rattle.std.proofs.Math.Seq.{take-append_seam, drop-append_seam}
use Rattle.liquid_model.specs.Front.{word_at}
use Rattle.liquid_model.proofs.WordLaws.{word_takes}

at_seam : (w after : List ℕ) → get_or (w ++ (63 ∷ after)) (length w) 0 ≡ 63
at_seam [] after = refl
at_seam (b ∷ w) after = at_seam w after

-- the word, the mark and what follows it are the text
pub marked_joined : (bs w rest after : List ℕ) → word_at bs ≡ Some (w, rest) → rest ≡ 63 ∷ after → bs ≡ w ++ (63 ∷ after)
marked_joined bs w rest after h e = (word_takes bs (w, rest) h).joined ∙ ap (λ (l : List ℕ). w ++ l) e

pub marked_cut : (bs w after : List ℕ) → IsUtf8 bs → bs ≡ w ++ (63 ∷ after) → IsCharBoundary bs (length w + 1)
marked_cut bs w after u e =
    let long = ap (length {A = ℕ}) e ∙ length-append w (63 ∷ after) in
    let seam = ap (λ (l : List ℕ). get_or l (length w) 0) e ∙ at_seam w after in
    subst (IsCharBoundary bs) (omega arith) (IsCharBoundary-after_ascii bs (length w) u (omega (arith, long)) (omega (arith, seam)))

whole : (w after : List ℕ) → w ++ (63 ∷ after) ≡ (w ++ (63 ∷ [])) ++ after
whole w after = sym (append_assoc w (63 ∷ []) after)

one_more : (w : List ℕ) → length w + 1 ≡ length (w ++ (63 ∷ []))
one_more w = sym (length-append w (63 ∷ []))

pub marked_front : (bs w after : List ℕ) → bs ≡ w ++ (63 ∷ after) → take (length w + 1) bs ≡ w ++ (63 ∷ [])
marked_front bs w after e =
    ap (take (length w + 1)) (e ∙ whole w after) ∙ ap (λ n. take n ((w ++ (63 ∷ [])) ++ after)) (one_more w) ∙ take-append_seam (w ++ (63 ∷ [])) after

pub marked_rest : (bs w after : List ℕ) → bs ≡ w ++ (63 ∷ after) → drop (length w + 1) bs ≡ after
marked_rest bs w after e =
    ap (drop (length w + 1)) (e ∙ whole w after) ∙ ap (λ n. drop n ((w ++ (63 ∷ [])) ++ after)) (one_more w) ∙ drop-append_seam (w ++ (63 ∷ [])) after
