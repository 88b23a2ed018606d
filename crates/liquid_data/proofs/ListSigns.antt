-- The first byte of a reader that is no white space.
use Rattle.std.proofs.Common.{arith, length, take, subst}
use Rattle.std.specs.Prelude.{◌≡◌, ℕ, zero, suc, ◌≤◌, Bool, true, false, cond, List, [], ◌∷◌, ◌++◌, Option, Some, None, IfSome, slice_index}
use Rattle.std.specs.Char.{is_ascii_whitespace}
use Rattle.std.specs.Io.KnownBytes.{Consumes, IsAtEnd}
use mathlib.Core.Path.{refl, sym, ap, ◌∙◌}
use Rattle.liquid_data.specs.Lists.{SignIs, sign_in}

-- some white space was read
abbrev pub IsPastSpace : Option (List ℕ) → Option (List ℕ) → Type 0
IsPastSpace old now = IfSome old (λ text. (t : List ℕ) × (now ≡ Some t) × (sign_in text ≡ sign_in t))

pub no_space : (old : Option (List ℕ)) → IsPastSpace old old
no_space None = tt
no_space (Some text) = (text, refl, refl)

-- a byte that was read
pub one_read : (now next : Option (List ℕ)) (bs : List ℕ) (n : ℕ) → length bs ≡ 1 → n ≤ 1 → (n ≡ 0 → ⊥) → Consumes now next (take n bs) → Consumes now next (slice_index bs 0 ∷ [])
one_read now next [] n one most some read = absurd (omega (arith, one))
one_read now next (b ∷ c ∷ bs) n one most some read = absurd (omega (arith, one))
one_read now next (b ∷ []) zero one most some read = absurd (some refl)
one_read now next (b ∷ []) (suc n) one most some read = at n (omega (arith, most)) read
  where
    at : (k : ℕ) → k ≡ 0 → Consumes now next (take (suc k) (b ∷ [])) → Consumes now next (b ∷ [])
    at zero e h = h
    at (suc k) e h = cc

sign_after : (t : List ℕ) (now next : Option (List ℕ)) (b : ℕ) → now ≡ Some t → Consumes now next (b ∷ []) → (ys : List ℕ) × (next ≡ Some ys) × (t ≡ b ∷ ys)
sign_after t now None b is read = absurd (subst (λ o. Consumes o None (b ∷ [])) is read)
sign_after t now (Some ys) b is read = (ys, refl, subst (λ o. Consumes o (Some ys) (b ∷ [])) is read)

pub one_space : (old now next : Option (List ℕ)) (b : ℕ) → IsPastSpace old now → Consumes now next (b ∷ []) → is_ascii_whitespace b ≡ true → IsPastSpace old next
one_space None now next b past read white = tt
one_space (Some text) now next b past read white =
    let after = sign_after past.0 now next b past.1 read in
    (after.0, after.1, past.2 ∙ ap sign_in after.2 ∙ ap (λ w. cond w (sign_in after.0) (Some (b, after.0))) white)

pub sign_found : (old now next : Option (List ℕ)) (b : ℕ) → IsPastSpace old now → Consumes now next (b ∷ []) → is_ascii_whitespace b ≡ false → IfSome old (λ text. SignIs (Some b) next (sign_in text))
sign_found None now next b past read white = tt
sign_found (Some text) now next b past read white =
    let after = sign_after past.0 now next b past.1 read in
    subst (SignIs (Some b) next) (sym (past.2 ∙ ap sign_in after.2 ∙ ap (λ w. cond w (sign_in after.0) (Some (b, after.0))) white)) (refl, after.1)

nothing_left : (t : List ℕ) (now next : Option (List ℕ)) → now ≡ Some t → Consumes now next [] → IsAtEnd next → t ≡ []
nothing_left t now None is read done = absurd (subst (λ o. Consumes o None []) is read)
nothing_left t now (Some ys) is read done = subst (λ o. Consumes o (Some ys) []) is read ∙ done

pub no_sign : (old now next : Option (List ℕ)) → IsPastSpace old now → Consumes now next [] → IsAtEnd next → IfSome old (λ text. SignIs None next (sign_in text))
no_sign None now next past read done = tt
no_sign (Some text) now next past read done = subst (SignIs None next) (sym (past.2 ∙ ap sign_in (nothing_left past.0 now next past.1 read done))) tt
