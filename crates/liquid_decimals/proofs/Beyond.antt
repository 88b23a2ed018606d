-- What is too long for a decimal.
use Rattle.std.proofs.Common.{◌≡◌, ◌≢◌, ℕ, zero, suc, ◌+◌, ◌-◌, ◌*◌, ◌^◌, ◌<◌, ◌≤◌, ℤ, pos, negsuc, List, ◌++◌, length, Bool, true, false, MatchBool, Result, Ok, Err, refl, sym, ap, ◌∙◌, arith, nat_le, ◌&&◌, unsigned_abs, if◌then◌else◌, ◌⊎◌, inl, inr, subst}
use Rattle.std.specs.Bool.{⊤}
use Rattle.std.proofs.lemmas.Bool.Decides.{nat_tests}
use Rattle.std.proofs.lemmas.Nat.{le-div}
use Rattle.std.proofs.Math.Nat.{pow-le-pow_right, le-mul_of_pos_right}
use Rattle.std.specs.Str.Parse.{digits_value}
use Rattle.liquid_model.specs.Answer.{Answers, Faulted}
use Rattle.liquid_model.specs.declared.error.Error.{Error}
use Rattle.liquid_decimals.specs.declared.decimal.Decimal as code
use Rattle.liquid_model.specs.ErrorKinds.{IsKindOrMemory, is_memory, is_refusal}
use Rattle.liquid_model.specs.Whole.{fits}
use Rattle.liquid_model.specs.declared.error.ErrorKind.{ErrorKind}
use Rattle.liquid_model.specs.declared.error.ErrorKind.TheVariants.{NumberRange}
use Rattle.liquid_filters.specs.Rounding.{nearest, signed}
use Rattle.liquid_filters.proofs.Roundings.{value_parts, pow_pos10}
use Rattle.liquid_decimals.specs.Decimals.{Decimal, bounded, decimal_view, most_decimal_places}
use Rattle.liquid_decimals.specs.Readings.{of_digits}

-- the reported fault is the wanted one
faulted_at : {Y : Type 0} (b : Bool) (wanted : Result Y ErrorKind) (reported : ErrorKind) → MatchBool b ⊤ (NumberRange ≡ reported) → wanted ≡ Err NumberRange
    → MatchBool b ⊤ ((wanted ≡ Err reported) × (is_refusal reported ≡ false))
faulted_at true wanted reported h e = tt
faulted_at false wanted reported h e = (e ∙ ap Err h, ap is_refusal (sym h))

pub faulted : {Y : Type 0} (wanted : Result Y ErrorKind) (reported : ErrorKind) → IsKindOrMemory NumberRange reported → wanted ≡ Err NumberRange → Faulted reported wanted
faulted wanted reported h e = faulted_at (is_memory reported) wanted reported h e

too_large : (negative : Bool) (m : ℕ) → 2 ^ 63 < m → fits (signed negative m) ≡ false
too_large true zero h = absurd (omega arith)
too_large true (suc m) h = grind (arith, nat_tests)
too_large false m h = grind (arith, nat_tests)

abbrev decimal_if : ℤ → ℕ → Bool → Result Decimal ErrorKind
decimal_if u p b = if b then Ok (record { units = u; places = p }) else Err NumberRange

chosen : (u : ℤ) (p : ℕ) (b : Bool) → b ≡ false → decimal_if u p b ≡ Err NumberRange
chosen u p true e = let u : ⊥ = cc in absurd u
chosen u p false e = refl

no_places : (a b : Bool) → b ≡ false → a && b ≡ false
no_places true b e = e
no_places false b e = refl

no_units : (a b : Bool) → a ≡ false → a && b ≡ false
no_units true b e = let u : ⊥ = cc in absurd u
no_units false b e = refl

pub large_units : (negative : Bool) (m p : ℕ) → 2 ^ 63 < m → bounded (signed negative m) p ≡ Err NumberRange
large_units negative m p h = chosen (signed negative m) p (fits (signed negative m) && nat_le p most_decimal_places) (no_units (fits (signed negative m)) (nat_le p most_decimal_places) (too_large negative m h))

pub many_places : (u : ℤ) (p : ℕ) → 18 < p → bounded u p ≡ Err NumberRange
many_places u p h = chosen u p (fits u && nat_le p most_decimal_places) (no_places (fits u) (nat_le p most_decimal_places) (grind (arith, nat_tests)))

-- a number before the point, or one after it, that is too large
pub large_whole : (negative : Bool) (ws fs : List ℕ) → 2 ^ 63 < digits_value 10 ws → of_digits negative ws fs ≡ Err NumberRange
large_whole negative ws fs h =
    let v = value_parts ws fs in
    let m = le-mul_of_pos_right (digits_value 10 ws) (pow_pos10 (length fs)) in
    large_units negative (digits_value 10 (ws ++ fs)) (length fs) (omega (arith, v, m))

pub large_fraction : (negative : Bool) (ws fs : List ℕ) → 2 ^ 63 < digits_value 10 fs → of_digits negative ws fs ≡ Err NumberRange
large_fraction negative ws fs h =
    let v = value_parts ws fs in
    large_units negative (digits_value 10 (ws ++ fs)) (length fs) (omega (arith, v))

-- ---- a dividend past 128 bits

large_nearest : (n d : ℕ) → 2 ^ 128 ≤ n → 0 < d → d ≤ 2 ^ 63 → 2 ^ 63 < nearest n d
large_nearest n d h p b = omega (arith, le-div (2 ^ 64) (2 * n + d) (2 * d) (omega arith) (omega arith))

large_at : (a b i j : ℕ) → a ≤ 2 ^ 63 → b ≤ 2 ^ 63 → 0 < b → 2 ^ 128 ≤ a * 10 ^ i → (i ≡ 0) ⊎ (j ≡ 0) → 2 ^ 63 < nearest (a * 10 ^ i) (b * 10 ^ j)
large_at a b i j k l p h (inl e) =
    let t : a * 10 ^ i ≡ a * 1 = ap (λ n. a * 10 ^ n) e in
    absurd (omega (arith, t))
large_at a b i j k l p h (inr e) =
    let t : b * 10 ^ j ≡ b * 1 = ap (λ n. b * 10 ^ n) e in
    large_nearest (a * 10 ^ i) (b * 10 ^ j) h (omega (arith, t)) (omega (arith, t))

one_at : (m n : ℕ) (b : Bool) → nat_le m n ≡ b → (m - n ≡ 0) ⊎ (n - m ≡ 0)
one_at m n true e = let h : m ≤ n = grind (arith, nat_tests) in inl (omega arith)
one_at m n false e = let h : n ≤ m = grind (arith, nat_tests) in inr (omega arith)

one_is_zero : (m n : ℕ) → (m - n ≡ 0) ⊎ (n - m ≡ 0)
one_is_zero m n = one_at m n (nat_le m n) refl

pub large_quotient : (negative : Bool) (a b p m n : ℕ) → a ≤ 2 ^ 63 → b ≤ 2 ^ 63 → 0 < b → 2 ^ 128 ≤ a * 10 ^ (m - n) → bounded (signed negative (nearest (a * 10 ^ (m - n)) (b * 10 ^ (n - m)))) p ≡ Err NumberRange
large_quotient negative a b p m n k l q h =
    large_units negative (nearest (a * 10 ^ (m - n)) (b * 10 ^ (n - m))) p (large_at a b (m - n) (n - m) k l q h (one_is_zero m n))

pub size_positive : (z : ℤ) → z ≢ pos 0 → 0 < unsigned_abs z
size_positive (pos zero) h = absurd (h refl)
size_positive (pos (suc n)) h = omega arith
size_positive (negsuc n) h = omega arith

pub power_below : (i j : ℕ) → i ≤ j → 10 ^ i ≤ 10 ^ j
power_below i j h = pow-le-pow_right (omega arith) h

pub not_below : (x y n : ℕ) → (x < n → ⊥) → x ≡ y → n ≤ y
not_below x y n h e = grind (arith, nat_tests, h)

-- of the numbers before and after the point
pub of_parts : (r : Result code.Decimal Error) (negative : Bool) (ws fs : List ℕ) (size places : ℕ) → Answers decimal_view r (bounded (signed negative size) places) → size ≡ digits_value 10 ws * 10 ^ length fs + digits_value 10 fs → places ≡ length fs
    → Answers decimal_view r (of_digits negative ws fs)
of_parts r negative ws fs size places h e k =
    subst (λ (w : Result Decimal ErrorKind). Answers decimal_view r w)
    (ap (λ n. bounded (signed negative n) places) (e ∙ sym (value_parts ws fs)) ∙ ap (λ p. bounded (signed negative (digits_value 10 (ws ++ fs))) p) k) h
