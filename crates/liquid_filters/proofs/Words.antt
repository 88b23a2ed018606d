-- The words of a text: its pieces between single spaces.
use Rattle.std.proofs.Common.{◌≡◌, ℕ, zero, suc, ◌+◌, ◌-◌, ◌<◌, ◌≤◌, ltb, Bool, true, false, List, [], ◌∷◌, ◌++◌, length, take, drop, get_or, Some, None, ap, refl, subst, sym, ◌∙◌, arith, append_assoc, length-append, length-drop, take_all, if◌then◌else◌, codes}
use Rattle.std.proofs.lemmas.Bool.Decides.{nat_tests}
use Rattle.std.proofs.Math.Seq.{get_or-append_seam, take-append_seam}
use Rattle.std.proofs.lemmas.List.{take-append-drop}
use Rattle.std.proofs.lemmas.List.Folds.{concat-append}
use Rattle.std.specs.List.{concat}
use Rattle.unicode_segmentation.specs.Grapheme.{graphemes, is_grapheme_break}
use Rattle.unicode_segmentation.proofs.SegmentsLemmas.{concat-segments}
use Rattle.std.proofs.lemmas.Str.{IsCharBoundary-before_ascii, IsCharBoundary-start}
use Rattle.std.specs.Str.{IsCharBoundary, IsUtf8}
use Rattle.std.specs.Str.Pattern.{FindsText, SplitsAroundMatch}
use Rattle.liquid_model.specs.Joined.{joined, joined_rest}
use Rattle.liquid_model.specs.Text.{begins}
use Rattle.liquid_filters.specs.Pieces.{push, pieces}
use Rattle.liquid_filters.specs.Truncate.{first_clusters, first_words, words_of}
use Rattle.liquid_filters.proofs.Pieces.{joined-pieces, pieces_found, pieces_none}

abbrev pub Space : List ℕ
Space = codes " "

-- after i words: what is left, and where the words so far end
abbrev pub PastWords : List ℕ → List ℕ → ℕ → ℕ → Type 0
PastWords s rest end i = (drop i (words_of s) ≡ words_of rest) × (i < length (words_of s)) × (end ≡ length (first_words i s))

some_either : (b : ℕ) (t : Bool) (ps qs : List (List ℕ)) → 0 < length (if t then [] ∷ ps else push b qs)
some_either b true ps qs = omega arith
some_either b false ps [] = omega arith
some_either b false ps (x ∷ qs) = omega arith

some_pieces : (p : List ℕ) (k : ℕ) (s : List ℕ) → 0 < length (pieces p k s)
some_pieces p k [] = omega arith
some_pieces p (suc k) (b ∷ s) = some_pieces p k s
some_pieces p zero (b ∷ s) = some_either b (begins p (b ∷ s)) (pieces p (length p - 1) s) (pieces p zero s)

pub words_start : (s : List ℕ) → PastWords s s 0 0
words_start s = (refl, some_pieces Space 0 s, refl)

rest_cut : (p : List ℕ) (xs : List (List ℕ)) (i : ℕ) → i < length xs → joined_rest p xs ≡ joined_rest p (take i xs) ++ (p ++ joined p (drop i xs))
rest_cut p [] i h = absurd (omega arith)
rest_cut p (x ∷ xs) zero h = refl
rest_cut p (x ∷ xs) (suc i) h =
    ap (λ t. p ++ (x ++ t)) (rest_cut p xs i (omega arith)) ∙ ap (λ t. p ++ t) (sym (append_assoc x (joined_rest p (take i xs)) (p ++ joined p (drop i xs))))
    ∙ sym (append_assoc p (x ++ joined_rest p (take i xs)) (p ++ joined p (drop i xs)))

-- some of the pieces, and the others
joined_cut : (p : List ℕ) (xs : List (List ℕ)) (i : ℕ) → suc i < length xs → joined p xs ≡ joined p (take (suc i) xs) ++ (p ++ joined p (drop (suc i) xs))
joined_cut p [] i h = absurd (omega arith)
joined_cut p (x ∷ xs) i h = ap (λ t. x ++ t) (rest_cut p xs i (omega arith)) ∙ sym (append_assoc x (joined_rest p (take i xs)) (p ++ joined p (drop i xs)))

-- the first words, a space, and what is left
words_cut : (s rest : List ℕ) (i : ℕ) → suc i < length (words_of s) → drop (suc i) (words_of s) ≡ words_of rest → s ≡ first_words (suc i) s ++ (Space ++ rest)
words_cut s rest i h e =
    sym (joined-pieces Space 0 s (omega arith)) ∙ joined_cut Space (words_of s) i h
    ∙ ap (λ ws. first_words (suc i) s ++ (Space ++ joined Space ws)) e ∙ ap (λ t. first_words (suc i) s ++ (Space ++ t)) (joined-pieces Space 0 rest (omega arith))

dropped_suc : {X : Type 0} (i : ℕ) (xs ys : List X) (x : X) → drop i xs ≡ x ∷ ys → drop (suc i) xs ≡ ys
dropped_suc zero [] ys x h = cc
dropped_suc (suc i) [] ys x h = cc
dropped_suc zero (z ∷ xs) ys x h = cc
dropped_suc (suc i) (z ∷ xs) ys x h = dropped_suc i xs ys x h

module _ (s rest before after : List ℕ) (end i : ℕ) (found : SplitsAroundMatch (FindsText Space) rest before after) (w : PastWords s rest end i) where
  one_word : drop i (words_of s) ≡ before ∷ words_of after
  one_word =
      let cut : drop found.0 rest ≡ Space ++ after = found.2.1.split ∙ ap (λ t. Space ++ t) (sym found.4) in
      w.0 ∙ pieces_found Space rest found.0 after (omega arith) (λ k m t. found.2.0 k m t) cut ∙ ap (λ t. t ∷ words_of after) (sym found.3)

  next_left : drop (suc i) (words_of s) ≡ words_of after
  next_left = dropped_suc i (words_of s) (words_of after) before one_word

  next_within : suc i < length (words_of s)
  next_within =
      let some = some_pieces Space 0 after in
      omega (arith, ap length one_word, length-drop i (words_of s), some)

  next_cut : s ≡ first_words (suc i) s ++ (Space ++ after)
  next_cut = words_cut s after i next_within next_left

  next_length : length s ≡ length (first_words (suc i) s) + suc (length after)
  next_length = ap length next_cut ∙ length-append (first_words (suc i) s) (Space ++ after)

  pub enough_left : 1 ≤ length s - length after
  enough_left = omega (arith, next_length)

  pub words_turn : PastWords s after (length s - length after - 1) (i + 1)
  words_turn =
      let same : i + 1 ≡ suc i = omega arith in
      let there : length s - length after - 1 ≡ length (first_words (suc i) s) = omega (arith, next_length) in
      subst (λ j. PastWords s after (length s - length after - 1) j) (sym same) (next_left, next_within, there)

-- fewer words than are wanted
pub words_none : (s rest : List ℕ) (end i n : ℕ) (some : List ℕ) → i < n → FindsText Space rest None → PastWords s rest end i
    → None ≡ (if ltb n (length (words_of s)) then Some some else None)
words_none s rest end i n some l f w =
    let last = pieces_none Space rest (omega arith) (λ k m t. f k m t) in
    let a : length (drop i (words_of s)) ≡ 1 = ap length (w.0 ∙ last) in
    let b = length-drop i (words_of s) in
    let t : ltb n (length (words_of s)) ≡ false = grind (arith, nat_tests) in
    ap (λ c. if c then Some some else None) (sym t)

-- ---- the place where the first words end
pub words_boundary : (s rest : List ℕ) (end i : ℕ) → IsUtf8 s → PastWords s rest end i → IsCharBoundary s end
words_boundary s rest end zero u w = subst (λ n. IsCharBoundary s n) (sym w.2) (IsCharBoundary-start s u)
words_boundary s rest end (suc i) u w =
    let cut = words_cut s rest i w.1 w.0 in
    let front_words = first_words (suc i) s in
    let within : length front_words < length s = omega (arith, ap length cut ∙ length-append front_words (Space ++ rest)) in
    let space : get_or s (length front_words) 0 ≡ 32 = ap (λ t. get_or t (length front_words) 0) cut ∙ get_or-append_seam front_words 32 rest 0 in
    subst (λ n. IsCharBoundary s n) (sym w.2) (IsCharBoundary-before_ascii s (length front_words) within (omega (arith, space)))

words_taken : (s rest : List ℕ) (end i : ℕ) → PastWords s rest end i → take end s ≡ first_words i s
words_taken s rest end zero w = ap (λ n. take n s) w.2
words_taken s rest end (suc i) w =
    ap (λ n. take n s) w.2 ∙ ap (take (length (first_words (suc i) s))) (words_cut s rest i w.1 w.0) ∙ take-append_seam (first_words (suc i) s) (Space ++ rest)

pub words_end : (s rest kept : List ℕ) (end i n : ℕ) → i ≡ n → kept ≡ take end s → PastWords s rest end i
    → Some kept ≡ (if ltb n (length (words_of s)) then Some (first_words n s) else None)
words_end s rest kept end i n e g w =
    let m : n < length (words_of s) = omega (arith, w.1, e) in
    let t : ltb n (length (words_of s)) ≡ true = grind (arith, nat_tests) in
    ap Some (g ∙ words_taken s rest end i w ∙ ap (λ k. first_words k s) e) ∙ ap (λ c. if c then Some (first_words n s) else None) (sym t)

-- ---- grapheme clusters
pub clusters_turn : (gs left rest : List (List ℕ)) (x : List ℕ) (i : ℕ) → left ≡ x ∷ rest → left ≡ drop i gs → rest ≡ drop (i + 1) gs
clusters_turn gs left rest x i e h =
    let same : suc i ≡ i + 1 = omega arith in
    sym (dropped_suc i gs rest x (sym h ∙ e)) ∙ ap (λ n. drop n gs) same

pub clusters_none : (s : List ℕ) (left : List (List ℕ)) (i n : ℕ) → IsUtf8 s → i < n → left ≡ [] → left ≡ drop i (graphemes true s) → s ≡ first_clusters n s
clusters_none s left i n u l z h =
    let few : length (graphemes true s) ≤ n = omega (arith, ap length (sym z ∙ h), length-drop i (graphemes true s)) in
    sym (concat-segments (is_grapheme_break true) s u) ∙ ap concat (sym (take_all n (graphemes true s) few))

pub clusters_cut : (s : List ℕ) (left : List (List ℕ)) (i n : ℕ) → IsUtf8 s → i ≡ n → left ≡ drop i (graphemes true s) → s ≡ first_clusters n s ++ concat left
clusters_cut s left i n u e h =
    let gs = graphemes true s in
    sym (concat-segments (is_grapheme_break true) s u) ∙ ap concat (sym (take-append-drop n gs)) ∙ concat-append (take n gs) (drop n gs)
    ∙ ap (λ ls. first_clusters n s ++ concat ls) (sym (h ∙ ap (λ k. drop k gs) e))
