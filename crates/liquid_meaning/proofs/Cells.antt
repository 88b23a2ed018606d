-- The rows of a `tablerow`.
use Rattle.std.specs.Prelude.{◌≡◌, ℕ, ◌+◌, ◌%◌, ◌==◌, eqb, ◌<◌, ◌≢◌, Bool, true, false, ◌||◌, ◌⊎◌}
use mathlib.Core.Path.{refl, sym, ap, ◌∙◌}
use mathlib.Core.Logic.{inl, inr}
use native.Mathlib.Omega.{arith}
use native.Mathlib.Nat.{mod-lt, mod-eq_of_lt, mod-add-mod, mod_self, zero-mod}
use Rattle.std.proofs.lemmas.Bool.Decides.{eqb_tells}
use Rattle.liquid_meaning.specs.LoopLaws.{RowLaw}

differ : (a b : ℕ) → a ≢ b → (a == b) ≡ false
differ a b n = at (eqb_tells a b)
  where
    at : ((eqb a b ≡ true) × (a ≡ b)) ⊎ ((eqb a b ≡ false) × (a ≢ b)) → (a == b) ≡ false
    at (inl p) = absurd (n p.1)
    at (inr p) = p.0

agree : (a b : ℕ) → a ≡ b → (a == b) ≡ true
agree a b e = at (eqb_tells a b)
  where
    at : ((eqb a b ≡ true) × (a ≡ b)) ⊎ ((eqb a b ≡ false) × (a ≢ b)) → (a == b) ≡ true
    at (inl p) = p.0
    at (inr p) = absurd (p.1 e)

-- k leaves the greatest remainder just where k + 1 leaves none
turns : (k c : ℕ) → 0 < c → (k % c + 1 == c) ≡ ((k + 1) % c == 0)
turns k c h = at (eqb_tells (k % c + 1) c)
  where
    at : ((eqb (k % c + 1) c ≡ true) × (k % c + 1 ≡ c)) ⊎ ((eqb (k % c + 1) c ≡ false) × (k % c + 1 ≢ c)) → (k % c + 1 == c) ≡ ((k + 1) % c == 0)
    at (inl p) =
        let none : (k + 1) % c ≡ 0 = sym (mod-add-mod k c 1) ∙ (ap (λ n. n % c) p.1 ∙ mod_self c) in
        p.0 ∙ sym (agree _ _ none)
    at (inr p) =
        let below : k % c < c = mod-lt k h in
        let less : k % c + 1 < c = (let n : k % c + 1 ≢ c = p.1 in omega arith) in
        let some : (k + 1) % c ≡ k % c + 1 = sym (mod-add-mod k c 1) ∙ mod-eq_of_lt less in
        p.0 ∙ sym (differ _ _ (λ z. let e : k % c + 1 ≡ 0 = sym some ∙ z in omega arith))

or_false : (a : Bool) → (a || false) ≡ a
or_false true = refl
or_false false = refl

or_true : (a : Bool) → (a || true) ≡ true
or_true true = refl
or_true false = refl

pub row_law : RowLaw
row_law m columns h = record {
  first = zero-mod columns;
  next = λ k less. ap (λ b. (k % columns + 1 == columns) || b) (differ (k + 1) m (λ e. omega arith)) ∙ (or_false _ ∙ turns k columns h);
  last = λ k e. ap (λ b. (k % columns + 1 == columns) || b) (agree (k + 1) m e) ∙ or_true _;
}
