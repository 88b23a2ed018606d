-- The last occurrence of a text in another.
use Rattle.std.proofs.Common.{◌≡◌, ℕ, zero, suc, ◌+◌, ◌<◌, ◌≤◌, ◌==◌, ◌&&◌, ◌||◌, Bool, true, false, List, [], ◌∷◌, ◌++◌, length, take, drop, Some, None, ap, refl, sym, ◌∙◌, arith, append-nil, if◌then◌else◌}
use Rattle.std.proofs.Math.Seq.{drop-append_seam}
use Rattle.std.proofs.lemmas.Bool.{and_parts}
use Rattle.std.proofs.lemmas.Bool.Decides.{nat_tests}
use Rattle.std.specs.Str.Pattern.{LacksTextAt, RFindsText}
use Rattle.liquid_model.specs.Text.{begins}
use Rattle.liquid_shopify_host_filters.specs.Last.{occurs, replaced_last}

eq_own : (x : ℕ) → (x == x) ≡ true
eq_own x = grind (arith, nat_tests)

eq_from : (x y : ℕ) → (x == y) ≡ true → x ≡ y
eq_from x y h = grind (arith, nat_tests)

begins_is : (p s : List ℕ) → begins p s ≡ true → s ≡ p ++ drop (length p) s
begins_is [] s h = refl
begins_is (x ∷ p) [] h = cc
begins_is (x ∷ p) (y ∷ s) h =
    let a = and_parts (x == y) (begins p s) h in
    ap (λ z. z ∷ s) (sym (eq_from x y a.0)) ∙ ap (λ t. x ∷ t) (begins_is p s a.1)

begins_own : (p rest : List ℕ) → begins p (p ++ rest) ≡ true
begins_own [] rest = refl
begins_own (x ∷ p) rest = ap (λ t. t && begins p (p ++ rest)) (eq_own x) ∙ begins_own p rest

begins_not : (p s : List ℕ) (t : Bool) → begins p s ≡ t → ((r : List ℕ) → s ≡ p ++ r → ⊥) → begins p s ≡ false
begins_not p s true e h = absurd (h (drop (length p) s) (begins_is p s e))
begins_not p s false e h = e

or_true : (x : Bool) → (x || true) ≡ true
or_true true = refl
or_true false = refl

nil_rest : (p rest : List ℕ) → [] ≡ p ++ rest → rest ≡ []
nil_rest [] rest e = sym e
nil_rest (x ∷ p) rest e = cc

abbrev LacksAll : List ℕ → List ℕ → Type 0
LacksAll p s = (k : ℕ) → k ≤ length s → LacksTextAt p s k

occurs_none : (p s : List ℕ) → LacksAll p s → occurs p s ≡ false
occurs_none p [] h = begins_not p [] (begins p []) refl (h 0 (omega arith))
occurs_none p (b ∷ s) h =
    ap (λ t. t || occurs p s) (begins_not p (b ∷ s) (begins p (b ∷ s)) refl (h 0 (omega arith)))
    ∙ occurs_none p s (λ k m. h (suc k) (omega arith))

occurs_at : (p s rest : List ℕ) (i : ℕ) → i ≤ length s → drop i s ≡ p ++ rest → occurs p s ≡ true
occurs_at p [] rest zero l e = ap (begins p) e ∙ begins_own p rest
occurs_at p [] rest (suc i) l e = absurd (omega arith)
occurs_at p (b ∷ s) rest zero l e = ap (λ t. t || occurs p s) (ap (begins p) e ∙ begins_own p rest)
occurs_at p (b ∷ s) rest (suc i) l e =
    ap (λ t. begins p (b ∷ s) || t) (occurs_at p s rest i (omega arith) e) ∙ or_true (begins p (b ∷ s))

none : (p r s : List ℕ) → LacksAll p s → replaced_last p r s ≡ s
none p r [] h = ap (λ t. if t then r else []) (begins_not p [] (begins p []) refl (h 0 (omega arith)))
none p r (b ∷ s) h =
    let found = r ++ drop (length p) (b ∷ s) in
    ap (λ t. if t then b ∷ replaced_last p r s else (if begins p (b ∷ s) then found else b ∷ s))
    (occurs_none p s (λ k m. h (suc k) (omega arith)))
    ∙ ap (λ t. if t then found else b ∷ s) (begins_not p (b ∷ s) (begins p (b ∷ s)) refl (h 0 (omega arith)))

found : (p r s rest : List ℕ) (i : ℕ) → i ≤ length s → drop i s ≡ p ++ rest
    → ((k : ℕ) → i < k → k ≤ length s → LacksTextAt p s k) → replaced_last p r s ≡ take i s ++ (r ++ rest)
found p r [] rest zero l e h =
    ap (λ t. if t then r else []) (ap (begins p) e ∙ begins_own p rest)
    ∙ sym (append-nil r) ∙ ap (λ t. r ++ t) (sym (nil_rest p rest e))
found p r [] rest (suc i) l e h = absurd (omega arith)
found p r (b ∷ s) rest zero l e h =
    let here = r ++ drop (length p) (b ∷ s) in
    ap (λ t. if t then b ∷ replaced_last p r s else (if begins p (b ∷ s) then here else b ∷ s))
    (occurs_none p s (λ k m. h (suc k) (omega arith) (omega arith)))
    ∙ ap (λ t. if t then here else b ∷ s) (ap (begins p) e ∙ begins_own p rest)
    ∙ ap (λ t. r ++ drop (length p) t) e ∙ ap (λ t. r ++ t) (drop-append_seam p rest)
found p r (b ∷ s) rest (suc i) l e h =
    ap (λ t. if t then b ∷ replaced_last p r s
    else (if begins p (b ∷ s) then r ++ drop (length p) (b ∷ s) else b ∷ s))
    (occurs_at p s rest i (omega arith) e)
    ∙ ap (λ t. b ∷ t) (found p r s rest i (omega arith) e (λ k m n. h (suc k) (omega arith) (omega arith)))

pub last_found : (p r s front back out : List ℕ) (i j : ℕ) → RFindsText p s (Some (i, j)) → front ≡ take i s
    → back ≡ drop j s → i ≤ j → length back + j ≡ length s → out ≡ front ++ (r ++ back)
    → out ≡ replaced_last p r s
last_found p r s front back out i j h f b l n o =
    o ∙ ap (λ t. t ++ (r ++ back)) f ∙ ap (λ t. take i s ++ (r ++ t)) b
    ∙ sym (found p r s (drop j s) i (omega arith) h.1.split h.0)

pub last_none : (p r s out : List ℕ) → RFindsText p s None → out ≡ s → out ≡ replaced_last p r s
last_none p r s out h o = o ∙ sym (none p r s h)
