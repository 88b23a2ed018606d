-- The pieces of a text: where a search for p cuts, the pieces are cut, and joining them gives the text back.
use Rattle.std.proofs.Common.{◌≡◌, ◌≢◌, ℕ, zero, suc, ◌-◌, ◌<◌, ◌≤◌, Bool, true, false, ◌&&◌, ◌==◌, List, [], ◌∷◌, ◌++◌, length, take, drop, ap, refl, sym, ◌∙◌, arith, if◌then◌else◌}
use Rattle.std.proofs.lemmas.Bool.Decides.{nat_tests}
use Rattle.std.proofs.lemmas.Bool.{and_parts}
use Rattle.liquid_model.specs.Joined.{joined, joined_rest}
use Rattle.liquid_model.specs.Text.{begins}
use Rattle.liquid_filters.specs.Pieces.{push, pieces}

joined-push : (p : List ℕ) (b : ℕ) (ps : List (List ℕ)) → joined p (push b ps) ≡ b ∷ joined p ps
joined-push p b [] = refl
joined-push p b (x ∷ xs) = refl

joined_rest-push : (p : List ℕ) (b : ℕ) (ps : List (List ℕ)) → joined_rest p (push b ps) ≡ p ++ joined p (push b ps)
joined_rest-push p b [] = refl
joined_rest-push p b (x ∷ xs) = refl

eq_from : (x y : ℕ) → (x == y) ≡ true → x ≡ y
eq_from x y h = grind (arith, nat_tests)

eq_own : (x : ℕ) → (x == x) ≡ true
eq_own x = grind (arith, nat_tests)

pub begins_is : (p s : List ℕ) → begins p s ≡ true → s ≡ p ++ drop (length p) s
begins_is [] s h = refl
begins_is (x ∷ p) [] h = cc
begins_is (x ∷ p) (y ∷ s) h =
    let a = and_parts (x == y) (begins p s) h in
    ap (λ z. z ∷ s) (sym (eq_from x y a.0)) ∙ ap (λ t. x ∷ t) (begins_is p s a.1)

pub begins_own : (p rest : List ℕ) → begins p (p ++ rest) ≡ true
begins_own [] rest = refl
begins_own (x ∷ p) rest = ap (λ t. t && begins p (p ++ rest)) (eq_own x) ∙ begins_own p rest

pub drop_pred : (p : List ℕ) (b : ℕ) (s : List ℕ) → 0 < length p → drop (length p) (b ∷ s) ≡ drop (length p - 1) s
drop_pred [] b s h = absurd (omega arith)
drop_pred (x ∷ p) b s h = let e : length (x ∷ p) - 1 ≡ length p = omega arith in rw e refl

joined_rest_either : (r : List ℕ) (b : ℕ) (t : Bool) (ps qs : List (List ℕ)) → joined_rest r (if t then [] ∷ ps else push b qs) ≡ r ++ joined r (if t then [] ∷ ps else push b qs)
joined_rest_either r b true ps qs = refl
joined_rest_either r b false ps qs = joined_rest-push r b qs

joined_rest_skip : (r p : List ℕ) (k : ℕ) (s : List ℕ) → joined_rest r (pieces p k s) ≡ r ++ joined r (pieces p k s)
joined_rest_skip r p k [] = refl
joined_rest_skip r p (suc k) (b ∷ s) = joined_rest_skip r p k s
joined_rest_skip r p zero (b ∷ s) = joined_rest_either r b (begins p (b ∷ s)) (pieces p (length p - 1) s) (pieces p zero s)

pub joined_rest-pieces : (r p s : List ℕ) → joined_rest r (pieces p 0 s) ≡ r ++ joined r (pieces p 0 s)
joined_rest-pieces r p s = joined_rest_skip r p 0 s

joined_either : (p : List ℕ) (b : ℕ) (s : List ℕ) (t : Bool) → 0 < length p → begins p (b ∷ s) ≡ t → joined p (pieces p (length p - 1) s) ≡ drop (length p - 1) s
    → joined p (pieces p 0 s) ≡ s → joined p (if t then [] ∷ pieces p (length p - 1) s else push b (pieces p 0 s)) ≡ b ∷ s
joined_either p b s true l h one two =
    joined_rest_skip p p (length p - 1) s ∙ ap (λ t. p ++ t) one ∙ ap (λ t. p ++ t) (sym (drop_pred p b s l)) ∙ sym (begins_is p (b ∷ s) h)
joined_either p b s false l h one two = joined-push p b (pieces p 0 s) ∙ ap (λ t. b ∷ t) two

-- joining the pieces gives the text
pub joined-pieces : (p : List ℕ) (k : ℕ) (s : List ℕ) → 0 < length p → joined p (pieces p k s) ≡ drop k s
joined-pieces p zero [] l = refl
joined-pieces p (suc k) [] l = refl
joined-pieces p (suc k) (b ∷ s) l = joined-pieces p k s l
joined-pieces p zero (b ∷ s) l =
    joined_either p b s (begins p (b ∷ s)) l refl (joined-pieces p (length p - 1) s l) (joined-pieces p zero s l)

skip : (p q rest : List ℕ) → pieces p (length q) (q ++ rest) ≡ pieces p 0 rest
skip p [] rest = refl
skip p (x ∷ q) rest = skip p q rest

at_start : (p rest : List ℕ) → 0 < length p → pieces p 0 (p ++ rest) ≡ [] ∷ pieces p 0 rest
at_start [] rest l = absurd (omega arith)
at_start (x ∷ p) rest l =
    let e : length (x ∷ p) - 1 ≡ length p = omega arith in
    ap (λ t. if t then [] ∷ pieces (x ∷ p) (length (x ∷ p) - 1) (p ++ rest) else push x (pieces (x ∷ p) 0 (p ++ rest))) (begins_own (x ∷ p) rest)
    ∙ ap (λ n. [] ∷ pieces (x ∷ p) n (p ++ rest)) e ∙ ap (λ t. [] ∷ t) (skip (x ∷ p) p rest)

pub begins_not : (p s : List ℕ) (t : Bool) → begins p s ≡ t → ((r : List ℕ) → s ≢ p ++ r) → begins p s ≡ false
begins_not p s true e h = absurd (h (drop (length p) s) (begins_is p s e))
begins_not p s false e h = e

-- the first occurrence is at i, with rest after it
pub pieces_found : (p s : List ℕ) (i : ℕ) (rest : List ℕ) → 0 < length p → ((k : ℕ) → k < i → (r : List ℕ) → drop k s ≢ p ++ r) → drop i s ≡ p ++ rest
    → pieces p 0 s ≡ take i s ∷ pieces p 0 rest
pieces_found p s zero rest l h e = ap (pieces p 0) e ∙ at_start p rest l
pieces_found [] [] (suc i) rest l h e = absurd (omega arith)
pieces_found (x ∷ p) [] (suc i) rest l h e = cc
pieces_found p (b ∷ s) (suc i) rest l h e =
    ap (λ t. if t then [] ∷ pieces p (length p - 1) s else push b (pieces p 0 s)) (begins_not p (b ∷ s) (begins p (b ∷ s)) refl (h 0 (omega arith)))
    ∙ ap (push b) (pieces_found p s i rest l (λ k m. h (suc k) (omega arith)) e)

-- and where there is none
pub pieces_none : (p s : List ℕ) → 0 < length p → ((k : ℕ) → k ≤ length s → (r : List ℕ) → drop k s ≢ p ++ r) → pieces p 0 s ≡ s ∷ []
pieces_none p [] l h = refl
pieces_none p (b ∷ s) l h =
    ap (λ t. if t then [] ∷ pieces p (length p - 1) s else push b (pieces p 0 s)) (begins_not p (b ∷ s) (begins p (b ∷ s)) refl (h 0 (omega arith)))
    ∙ ap (push b) (pieces_none p s l (λ k m. h (suc k) (omega arith)))
