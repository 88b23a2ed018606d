-- Rounding by products, and by a look at the digits after the point.
use Rattle.std.proofs.Common.{◌≡◌, ℕ, zero, suc, ◌+◌, ◌-◌, ◌*◌, ◌^◌, ◌/◌, ◌<◌, ◌≤◌, List, [], ◌∷◌, ◌++◌, length, get_or, cond, eqb, leb, not, ◌||◌, Bool, true, false, refl, sym, ap, ◌∙◌, arith}
use Rattle.std.proofs.lemmas.Bool.Decides.{nat_tests}
use Rattle.std.proofs.lemmas.Nat.{div-mul-add, div-add-mod', mod_below, mul-le}
use Rattle.std.proofs.Math.Nat.{one-le-pow, pow-suc, pow-succ'}
use Rattle.std.specs.Char.{digit_value}
use Rattle.std.specs.List.{list_any}
use Rattle.std.specs.Str.{all_ascii_digits}
use Rattle.std.specs.Str.Parse.{AllDigits, digits_value, digits_value_after, IsNumeral, without_leading_plus}
use Rattle.std.proofs.lemmas.Int.Digits.{digits_value-lt}
use Rattle.std.proofs.lemmas.Str.{digit_value_digit}
use Rattle.std.proofs.lemmas.Str.Parse.{digit_from_value, parse_digits}
use Rattle.std.proofs.Common.{ℤ, Some, None, Err, Option, if◌then◌else◌}
use mir.Val.{bool_byte}
use Rattle.std.specs.Prelude.{IsTrue, nat_lt}
use Rattle.std.proofs.lemmas.Bool.{and_parts}
use Rattle.liquid_filters.specs.Decimals.{is_numeral, if_fits}
use Rattle.liquid_model.specs.Whole.{fits}
use Rattle.liquid_model.proofs.Compares.{own}
use Rattle.liquid_filters.specs.Rounding.{signed, nearest, away, towards, magnitude, size, goes_away}
use Rattle.liquid_filters.specs.declared.stdlib.filters.math.decimal.Rounding.{Rounding}
use Rattle.liquid_filters.specs.declared.stdlib.filters.math.decimal.Rounding.TheVariants.{Nearest, Up, Down}

-- ---- one answer
pub floor_is : (n s m : ℕ) → 0 < s → m * s ≤ n → n < (m + 1) * s → m ≡ n / s
floor_is n s m p h k =
    let e : n ≡ m * s + (n - m * s) = omega arith in
    sym (ap (λ x. x / s) e ∙ div-mul-add m s (n - m * s) (omega arith))

pub floor_meets : (n s : ℕ) → 0 < s → ((n / s) * s ≤ n) × (n < (n / s + 1) * s)
floor_meets n s p =
    let e = div-add-mod' n s in let b = mod_below n s p in
    (omega arith, omega arith)

pub ceiling_is : (n s m : ℕ) → 0 < s → n ≤ m * s → m * s < n + s → m ≡ (n + (s - 1)) / s
ceiling_is n s m p h k = floor_is (n + (s - 1)) s m p (omega arith) (omega arith)

pub ceiling_meets : (n s : ℕ) → 0 < s → (n ≤ away n s * s) × (away n s * s < n + s)
ceiling_meets n s p = let f = floor_meets (n + (s - 1)) s p in (omega (arith, f.1), omega (arith, f.0))

-- ---- of w wholes and f parts of s
nearest_none : (w f s : ℕ) → 2 * f < s → nearest (w * s + f) s ≡ w
nearest_none w f s h =
    let e : 2 * (w * s + f) + s ≡ w * (2 * s) + (2 * f + s) = omega arith in
    ap (λ x. x / (2 * s)) e ∙ div-mul-add w (2 * s) (2 * f + s) (omega arith)

nearest_one : (w f s : ℕ) → f < s → s ≤ 2 * f → nearest (w * s + f) s ≡ w + 1
nearest_one w f s l h =
    let e : 2 * (w * s + f) + s ≡ (w + 1) * (2 * s) + (2 * f - s) = omega arith in
    ap (λ x. x / (2 * s)) e ∙ div-mul-add (w + 1) (2 * s) (2 * f - s) (omega arith)

towards_is : (w f s : ℕ) → f < s → towards (w * s + f) s ≡ w
towards_is w f s l = div-mul-add w s f l

away_none : (w s : ℕ) → 0 < s → away (w * s + 0) s ≡ w
away_none w s p =
    let e : w * s + 0 + (s - 1) ≡ w * s + (s - 1) = omega arith in
    ap (λ x. x / s) e ∙ div-mul-add w s (s - 1) (omega arith)

away_one : (w f s : ℕ) → 0 < f → f < s → away (w * s + f) s ≡ w + 1
away_one w f s p l =
    let e : w * s + f + (s - 1) ≡ (w + 1) * s + (f - 1) = omega arith in
    ap (λ x. x / s) e ∙ div-mul-add (w + 1) s (f - 1) (omega arith)

-- ---- the digits
more : (n d T v : ℕ) → (n * 10 + d) * T + v ≡ n * (10 * T) + ((0 * 10 + d) * T + v)
more n d T v = omega arith

value_after : (n : ℕ) (fs : List ℕ) → digits_value_after 10 n fs ≡ n * 10 ^ length fs + digits_value 10 fs
value_after n [] = omega arith
value_after n (c ∷ fs) =
    let d = digit_value c in let T = 10 ^ length fs in let v = digits_value 10 fs in
    value_after (n * 10 + d) fs ∙ more n d T v ∙ ap (λ P. n * P + ((0 * 10 + d) * T + v)) (sym (pow-succ' 10 (length fs))) ∙ ap (λ x. n * 10 ^ length (c ∷ fs) + x) (sym (value_after (0 * 10 + d) fs))

value_append : (n : ℕ) (ws fs : List ℕ) → digits_value_after 10 n (ws ++ fs) ≡ digits_value_after 10 (digits_value_after 10 n ws) fs
value_append n [] fs = refl
value_append n (c ∷ ws) fs = value_append (n * 10 + digit_value c) ws fs

pub value_parts : (ws fs : List ℕ) → digits_value 10 (ws ++ fs) ≡ digits_value 10 ws * 10 ^ length fs + digits_value 10 fs
value_parts ws fs = value_append 0 ws fs ∙ value_after (digits_value 10 ws) fs

pub pow_pos10 : (k : ℕ) → 0 < 10 ^ k
pow_pos10 k = one-le-pow k 10 (omega arith)

-- any digit but 0
digit_range : (c : ℕ) → digit_value c < 10 → digit_value c + 48 ≡ c
digit_range c h = digit_value_digit c (digit_from_value c h)

head_value : (c : ℕ) (fs : List ℕ) → digits_value 10 (c ∷ fs) ≡ digit_value c * 10 ^ length fs + digits_value 10 fs
head_value c fs = value_after (0 * 10 + digit_value c) fs ∙ ap (λ d. d * 10 ^ length fs + digits_value 10 fs) (omega arith)

abbrev Tells : Bool → ℕ → Type 0
Tells b n = (b ≡ true → 0 < n) × (b ≡ false → n ≡ 0)

any_either : (c : ℕ) (fs : List ℕ) → digit_value c < 10 → (t : Bool) → eqb c 48 ≡ t → Tells (list_any (λ b. not (eqb b 48)) fs) (digits_value 10 fs)
    → Tells (not t || list_any (λ b. not (eqb b 48)) fs) (digits_value 10 (c ∷ fs))
any_either c fs d true e h =
    let k : c ≡ 48 = grind (arith, nat_tests) in
    let r = digit_range c d in
    let z : digit_value c ≡ 0 = omega arith in
    let v : digits_value 10 (c ∷ fs) ≡ digits_value 10 fs = head_value c fs ∙ ap (λ d. d * 10 ^ length fs + digits_value 10 fs) z ∙ omega arith in
    (λ x. let y = h.0 x in omega arith, λ x. let y = h.1 x in omega arith)
any_either c fs d false e h =
    let r = digit_range c d in
    let k : 1 ≤ digit_value c = grind (arith, nat_tests) in
    let v = head_value c fs in
    let m = mul-le 1 1 (digit_value c) (10 ^ length fs) k (pow_pos10 (length fs)) in
    (λ x. omega arith, λ x. let u : ⊥ = cc in absurd u)

any_nonzero : (fs : List ℕ) → AllDigits 10 fs → Tells (list_any (λ b. not (eqb b 48)) fs) (digits_value 10 fs)
any_nonzero [] h = (λ e. let u : ⊥ = cc in absurd u, λ e. refl)
any_nonzero (c ∷ fs) h = any_either c fs h.0 (eqb c 48) refl (any_nonzero fs h.1)

-- a first digit of 5 or more
half : (fs : List ℕ) → AllDigits 10 fs → (t : Bool) → leb 53 (get_or fs 0 0) ≡ t → (t ≡ true → 10 ^ length fs ≤ 2 * digits_value 10 fs) × (t ≡ false → 2 * digits_value 10 fs < 10 ^ length fs)
half [] h t e = (λ x. let u : ⊥ = cc in absurd u, λ x. omega arith)
half (c ∷ fs) h t e =
    let r = digit_range c h.0 in
    let v = head_value c fs in
    let p = pow-suc 10 (length fs) in
    let b = digits_value-lt 10 fs h.1 in (
      λ x. let k : 5 ≤ digit_value c = grind (arith, nat_tests) in let m = mul-le 5 (10 ^ length fs) (digit_value c) (10 ^ length fs) k (omega arith) in omega arith,
      λ x. let k : digit_value c ≤ 4 = grind (arith, nat_tests) in let m = mul-le (digit_value c) (10 ^ length fs) 4 (10 ^ length fs) k (omega arith) in omega arith,
    )

near_at : (w f s : ℕ) (t : Bool) → f < s → (t ≡ true → s ≤ 2 * f) × (t ≡ false → 2 * f < s) → nearest (w * s + f) s ≡ w + cond t 1 0
near_at w f s true l h = nearest_one w f s l (h.0 refl)
near_at w f s false l h = nearest_none w f s (h.1 refl) ∙ omega arith

away_at : (w f s : ℕ) (t : Bool) → f < s → Tells t f → away (w * s + f) s ≡ w + cond t 1 0
away_at w f s true l h = away_one w f s (h.0 refl) l
away_at w f s false l h = ap (λ x. away (w * s + x) s) (h.1 refl) ∙ away_none w s (omega arith) ∙ omega arith

pub size_is : (how : Rounding) (negative : Bool) (ws fs : List ℕ) → all_ascii_digits fs ≡ true → size how negative ws fs ≡ digits_value 10 ws + cond (goes_away how negative fs) 1 0
unfolding magnitude
size_is Nearest negative ws fs d = let a = own.to fs d in ap (λ n. nearest n (10 ^ length fs)) (value_parts ws fs) ∙ near_at _ _ _ (leb 53 (get_or fs 0 0)) (digits_value-lt 10 fs a) (half fs a _ refl)
size_is Up true ws fs d = let a = own.to fs d in ap (λ n. towards n (10 ^ length fs)) (value_parts ws fs) ∙ towards_is _ _ _ (digits_value-lt 10 fs a) ∙ omega arith
size_is Up false ws fs d = let a = own.to fs d in ap (λ n. away n (10 ^ length fs)) (value_parts ws fs) ∙ away_at _ _ _ _ (digits_value-lt 10 fs a) (any_nonzero fs a)
size_is Down true ws fs d = let a = own.to fs d in ap (λ n. away n (10 ^ length fs)) (value_parts ws fs) ∙ away_at _ _ _ _ (digits_value-lt 10 fs a) (any_nonzero fs a)
size_is Down false ws fs d = let a = own.to fs d in ap (λ n. towards n (10 ^ length fs)) (value_parts ws fs) ∙ towards_is _ _ _ (digits_value-lt 10 fs a) ∙ omega arith

-- ---- the code's steps
large : (n : ℕ) → (n < 2 ^ 64 → ⊥) → 2 ^ 63 < n
large n h = grind arith

pub read_err : (ds : List ℕ) → IsTrue (is_numeral ds) → (IsNumeral 10 (without_leading_plus ds) × (digits_value 10 (without_leading_plus ds) < 2 ^ 64) → ⊥) → 2 ^ 63 < digits_value 10 ds
read_err ds t h =
    let p = and_parts (nat_lt 0 (length ds)) (all_ascii_digits ds) t in
    let n : 0 < length ds = let q = p.0 in grind (arith, nat_tests) in
    let f : (0 < length ds) × (digits_value 10 ds < 2 ^ 64) → ⊥ = parse_digits own {E = ℕ} 64 ds (Err 0) h p.1 in
    large (digits_value 10 ds) (λ x. f (n, x))

too_large_at : (negative : Bool) (m : ℕ) → 2 ^ 63 < m → fits (signed negative m) ≡ false
too_large_at true zero h = absurd (omega arith)
too_large_at true (suc m) h = grind (arith, nat_tests)
too_large_at false m h = grind (arith, nat_tests)

beyond : (z : ℤ) (t : Bool) → t ≡ false → None ≡ (if t then Some z else None)
beyond z true h = cc
beyond z false h = refl

pub byte_cond : (b : Bool) → bool_byte b ≡ cond b 1 0
byte_cond true = refl
byte_cond false = refl

pub rounded_is : (how : Rounding) (negative : Bool) (ws fs : List ℕ) (w more : ℕ) (n : Option ℤ) → IsTrue (all_ascii_digits fs) → w ≡ digits_value 10 ws → more ≡ bool_byte (goes_away how negative fs)
    → n ≡ if_fits (signed negative (w + more)) → n ≡ if_fits (signed negative (size how negative ws fs))
rounded_is how negative ws fs w more n d e g h =
    let s = size_is how negative ws fs d in
    h ∙ sym (ap (λ m. if_fits (signed negative m)) (s ∙ ap (λ x. x + cond (goes_away how negative fs) 1 0) (sym e) ∙ ap (λ x. w + x) (sym (g ∙ byte_cond (goes_away how negative fs)))))

pub rounded_none : (how : Rounding) (negative : Bool) (ws fs : List ℕ) → IsTrue (all_ascii_digits fs) → 2 ^ 63 < digits_value 10 ws → None ≡ if_fits (signed negative (size how negative ws fs))
rounded_none how negative ws fs d h =
    let s = size_is how negative ws fs d in
    beyond (signed negative (size how negative ws fs)) (fits (signed negative (size how negative ws fs))) (too_large_at negative (size how negative ws fs) (omega arith))
