-- A quotient and its remainder are one.
use Rattle.std.proofs.Common.{◌≡◌, ◌≢◌, ℕ, zero, suc, ◌+◌, ◌*◌, ◌/◌, ◌%◌, ◌<◌, ◌≤◌, ℤ, pos, negsuc, ◌+ℤ◌, ◌*ℤ◌, neg_ℤ, refl, sym, ap, ◌∙◌, inl, inr, ⊎_elim, arith, ◌⊎◌}
use Rattle.std.specs.Int.RustNames.{int_div, int_rem, unsigned_abs}
use Rattle.std.proofs.lemmas.Int.{ints, quot-rem, rem_below}
use Rattle.std.proofs.lemmas.Nat.{div-mul-add, mod-mul-add}
use Rattle.liquid_filters.specs.Division.{IsDivision, is_negative}

-- the sign of the remainder, by constructors
abbrev Alike : ℤ → ℤ → Type 0
Alike (pos a) (pos r) = Unit {0}
Alike (negsuc a) (negsuc r) = Unit {0}
Alike (pos a) (negsuc r) = ⊥
Alike (negsuc a) (pos r) = r ≡ 0

alike_same : (a r : ℤ) → is_negative r ≡ is_negative a → Alike a r
alike_same (pos a) (pos r) h = tt
alike_same (negsuc a) (negsuc r) h = tt
alike_same (pos a) (negsuc r) h = let f : ⊥ = cc in f
alike_same (negsuc a) (pos r) h = let f : ⊥ = cc in absurd f

alike_zero : (a : ℤ) → Alike a (pos 0)
alike_zero (pos a) = tt
alike_zero (negsuc a) = refl

alike_at : (a r : ℤ) → r ≡ pos 0 → Alike a r
alike_at a (pos zero) h = alike_zero a
alike_at a (pos (suc r)) h = let f : ⊥ = omega (arith, ints, h) in absurd f
alike_at a (negsuc r) h = let f : ⊥ = cc in absurd f

alike : (a r : ℤ) → (r ≡ pos 0) ⊎ (is_negative r ≡ is_negative a) → Alike a r
alike a r h = ⊎_elim (alike_at a r) (alike_same a r) h

pub at_least : (k n : ℕ) → n ≤ suc k * n
at_least k n = grind arith

parts : (m n k s : ℕ) → s < n → m ≡ k * n + s → (k ≡ m / n) × (s ≡ m % n)
parts m n k s h e = (sym (ap (λ x. x / n) e ∙ div-mul-add k n s h), sym (ap (λ x. x % n) e ∙ mod-mul-add k n s h))

-- by the signs of all four
both : (a b q r : ℤ) → a ≡ q *ℤ b +ℤ r → unsigned_abs r < unsigned_abs b → Alike a r → (q ≡ int_div a b) × (r ≡ int_rem a b)
both (pos m) (pos n) (pos k) (pos s) e h l =
    let f : m ≡ k * n + s = omega (arith, ints, e) in
    let p = parts m n k s h f in (ap pos p.0, ap pos p.1)
both (pos m) (pos n) (negsuc k) (pos s) e h l = let g : n ≤ suc k * n = at_least k n in absurd (omega (arith, ints, e))
both (pos m) (negsuc n) (pos zero) (pos s) e h l =
    let f : m ≡ 0 * suc n + s = omega (arith, ints, e) in
    let p = parts m (suc n) 0 s h f in (ap (λ x. neg_ℤ (pos x)) p.0, ap pos p.1)
both (pos m) (negsuc n) (pos (suc k)) (pos s) e h l = let g : suc n ≤ suc k * suc n = at_least k (suc n) in absurd (omega (arith, ints, e))
both (pos m) (negsuc n) (negsuc k) (pos s) e h l =
    let f : m ≡ suc k * suc n + s = omega (arith, ints, e) in
    let p = parts m (suc n) (suc k) s h f in (ap (λ x. neg_ℤ (pos x)) p.0, ap pos p.1)
both (pos m) b q (negsuc s) e h l = absurd l
both (negsuc m) (pos n) (pos zero) (negsuc s) e h l =
    let f : suc m ≡ 0 * n + suc s = omega (arith, ints, e) in
    let p = parts (suc m) n 0 (suc s) h f in (ap (λ x. neg_ℤ (pos x)) p.0, ap (λ x. neg_ℤ (pos x)) p.1)
both (negsuc m) (pos n) (pos (suc k)) (negsuc s) e h l = let g : n ≤ suc k * n = at_least k n in absurd (omega (arith, ints, e))
both (negsuc m) (pos n) (negsuc k) (negsuc s) e h l =
    let f : suc m ≡ suc k * n + suc s = omega (arith, ints, e) in
    let p = parts (suc m) n (suc k) (suc s) h f in (ap (λ x. neg_ℤ (pos x)) p.0, ap (λ x. neg_ℤ (pos x)) p.1)
both (negsuc m) (negsuc n) (pos k) (negsuc s) e h l =
    let f : suc m ≡ k * suc n + suc s = omega (arith, ints, e) in
    let p = parts (suc m) (suc n) k (suc s) h f in (ap pos p.0, ap (λ x. neg_ℤ (pos x)) p.1)
both (negsuc m) (negsuc n) (negsuc k) (negsuc s) e h l = let g : suc n ≤ suc k * suc n = at_least k (suc n) in absurd (omega (arith, ints, e))
both (negsuc m) (pos n) (pos zero) (pos s) e h l = absurd (omega (arith, ints, e))
both (negsuc m) (pos n) (pos (suc k)) (pos s) e h l = absurd (omega (arith, ints, e))
both (negsuc m) (pos n) (negsuc k) (pos s) e h l =
    let f : suc m ≡ suc k * n + 0 = omega (arith, ints, e, l) in
    let p = parts (suc m) n (suc k) 0 (omega (arith, h, l)) f in (ap (λ x. neg_ℤ (pos x)) p.0, ap pos l ∙ ap (λ x. neg_ℤ (pos x)) p.1)
both (negsuc m) (negsuc n) (pos k) (pos s) e h l =
    let f : suc m ≡ k * suc n + 0 = omega (arith, ints, e, l) in
    let p = parts (suc m) (suc n) k 0 (omega (arith, h, l)) f in (ap pos p.0, ap pos l ∙ ap (λ x. neg_ℤ (pos x)) p.1)
both (negsuc m) (negsuc n) (negsuc k) (pos s) e h l = absurd (omega (arith, ints, e))

pub division_is : (a b q r : ℤ) → IsDivision a b q r → (q ≡ int_div a b) × (r ≡ int_rem a b)
division_is a b q r h = both a b q r h.sum h.near (alike a r h.sign)

-- and the two that are computed are such
neg_sign : (x m : ℕ) → (neg_ℤ (pos x) ≡ pos 0) ⊎ (is_negative (neg_ℤ (pos x)) ≡ is_negative (negsuc m))
neg_sign zero m = inl refl
neg_sign (suc x) m = inr refl

sign_of : (a b : ℤ) → (int_rem a b ≡ pos 0) ⊎ (is_negative (int_rem a b) ≡ is_negative a)
sign_of (pos m) b = inr refl
sign_of (negsuc m) b = neg_sign (suc m % unsigned_abs b) m

abs_pos : (b : ℤ) → b ≢ pos 0 → 0 < unsigned_abs b
abs_pos (pos zero) h = absurd (h refl)
abs_pos (pos (suc n)) h = omega arith
abs_pos (negsuc n) h = omega arith

pub division_meets : (a b : ℤ) → b ≢ pos 0 → IsDivision a b (int_div a b) (int_rem a b)
division_meets a b h = record { sum = sym (quot-rem a b); near = rem_below a b (abs_pos b h); sign = sign_of a b }
