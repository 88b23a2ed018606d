-- Where a text may be cut after ASCII characters, and the number at its front.
use Rattle.std.proofs.Common.{◌≡◌, ◌≢◌, ℕ, zero, suc, ◌+◌, ◌-◌, ◌<◌, ◌≤◌, ℤ, pos, Bool, true, false, ◌&&◌, ◌||◌, ◌==◌, nat_le, List, [], ◌∷◌, length, take, take_all, drop, length-drop, get_or, Result, Ok, ap, refl, sym, subst, ◌∙◌, arith, if◌then◌else◌}
use Rattle.std.proofs.lemmas.Bool.Decides.{nat_tests}
use Rattle.std.proofs.lemmas.List.{get_or-drop}
use Rattle.std.proofs.lemmas.List.Sums.{prefix_len_passes}
use Rattle.std.proofs.lemmas.Str.{IsCharBoundary-after_ascii, IsCharBoundary-start}
use Rattle.std.specs.Char.{is_ascii_digit, is_ascii_whitespace}
use Rattle.std.specs.List.{prefix_len}
use Rattle.std.specs.Prelude.{nat_lt}
use Rattle.std.specs.Str.{IsCharBoundary, IsUtf8}
use Rattle.liquid_model.specs.Whole.{whole_text}
use Rattle.liquid_model.specs.declared.error.ErrorKind.{ErrorKind}
use Rattle.liquid_jekyll_host_filters.specs.Numbers.{front_number, number_or_range, sign_bytes}

true_not_false : (t : Bool) → t ≡ true → t ≡ false → ⊥
true_not_false true h k = cc
true_not_false false h k = cc

pub boundary : (bs : List ℕ) (n : ℕ) → IsUtf8 bs → n ≤ length bs → ((k : ℕ) → k < n → get_or bs k 0 < 128) → IsCharBoundary bs n
boundary bs zero u l h = IsCharBoundary-start bs u
boundary bs (suc n) u l h = let e : n + 1 ≡ suc n = omega arith in subst (IsCharBoundary bs) e (IsCharBoundary-after_ascii bs n u (omega (arith, l)) (h n (omega arith)))

-- digits and white space are ASCII
high_digit : (b : ℕ) → 128 ≤ b → is_ascii_digit b ≡ false
high_digit b l =
    let a : nat_le b 57 ≡ false = grind (arith, nat_tests) in let c : nat_le 48 b ≡ true = grind (arith, nat_tests) in rw (a, c) refl

high_white : (b : ℕ) → 128 ≤ b → is_ascii_whitespace b ≡ false
high_white b l =
    let a1 : nat_le b 10 ≡ false = grind (arith, nat_tests) in let a2 : nat_le b 13 ≡ false = grind (arith, nat_tests) in let a3 : nat_le b 32 ≡ false = grind (arith, nat_tests) in
    let b1 : nat_le 9 b ≡ true = grind (arith, nat_tests) in let b2 : nat_le 12 b ≡ true = grind (arith, nat_tests) in let b3 : nat_le 32 b ≡ true = grind (arith, nat_tests) in
    rw (a1, a2, a3, b1, b2, b3) refl

low_if : (p : ℕ → Bool) → ((b : ℕ) → 128 ≤ b → p b ≡ false) → (b : ℕ) (t : Bool) → nat_lt b 128 ≡ t → p b ≡ true → b < 128
low_if p high b true e h = grind (arith, nat_tests)
low_if p high b false e h = let l : 128 ≤ b = grind (arith, nat_tests) in absurd (true_not_false (p b) h (high b l))

run_low : (p : ℕ → Bool) → ((b : ℕ) → 128 ≤ b → p b ≡ false) → (bs : List ℕ) (k : ℕ) → k < prefix_len p bs → get_or bs k 0 < 128
run_low p high bs k l = low_if p high (get_or bs k 0) (nat_lt (get_or bs k 0) 128) refl (prefix_len_passes p bs k 0 l)

pub white_boundary : (bs : List ℕ) (n : ℕ) → IsUtf8 bs → n ≤ length bs → n ≡ prefix_len is_ascii_whitespace bs → IsCharBoundary bs n
white_boundary bs n u l e = boundary bs n u l (λ k i. run_low is_ascii_whitespace high_white bs k (subst (λ m. k < m) e i))

sign_by : (b : ℕ) (s : List ℕ) (t : Bool) → (b == 45 || b == 43) ≡ t → 0 < (if t then 1 else 0) → b < 128
sign_by b s true e h = either (b == 45) (b == 43) refl refl e
  where
    either : (x y : Bool) → (b == 45) ≡ x → (b == 43) ≡ y → (x || y) ≡ true → b < 128
    either true y f g h = grind (arith, nat_tests)
    either false true f g h = grind (arith, nat_tests)
    either false false f g h = absurd (true_not_false false h refl)
sign_by b s false e h = absurd (omega (arith, h))

sign_low : (bs : List ℕ) (k : ℕ) → k < sign_bytes bs → sign_bytes bs ≤ 1 → get_or bs k 0 < 128
sign_low [] k h l = absurd (omega (arith, h))
sign_low (b ∷ s) zero h l = sign_by b s (b == 45 || b == 43) refl h
sign_low (b ∷ s) (suc k) h l = absurd (omega (arith, h, l))

front_low : (bs : List ℕ) (n d k : ℕ) (t : Bool) → nat_lt k n ≡ t → n ≡ sign_bytes bs → n ≤ 1 → d ≡ prefix_len is_ascii_digit (drop n bs) → k < n + d → get_or bs k 0 < 128
front_low bs n d k true e s l g h =
    let below : k < n = grind (arith, nat_tests) in sign_low bs k (subst (λ m. k < m) s below) (subst (λ m. m ≤ 1) s l)
front_low bs n d k false e s l g h =
    let above : n ≤ k = grind (arith, nat_tests) in
    let back : n + (k - n) ≡ k = omega (arith, above) in
    let less : k - n < d = omega (arith, above, h) in
    subst (λ j. get_or bs j 0 < 128) back (subst (λ b. b < 128) (get_or-drop n bs (k - n) 0) (run_low is_ascii_digit high_digit (drop n bs) (k - n) (subst (λ m. k - n < m) g less)))

pub front_boundary : (bs : List ℕ) (n d : ℕ) → IsUtf8 bs → n + d ≤ length bs → n ≡ sign_bytes bs → n ≤ 1 → d ≡ prefix_len is_ascii_digit (drop n bs) → IsCharBoundary bs (n + d)
front_boundary bs n d u l s o g = boundary bs (n + d) u l (λ k i. front_low bs n d k (nat_lt k n) refl s o g i)

-- ---- the number of a front
pub digits_front : (text bytes : List ℕ) (sign digits : ℕ) → bytes ≡ text → digits ≡ prefix_len is_ascii_digit (take (length bytes - sign) (drop sign bytes)) → digits ≡ prefix_len is_ascii_digit (drop sign text)
digits_front text bytes sign digits same e =
    e ∙ ap (prefix_len is_ascii_digit) (take_all (length bytes - sign) (drop sign bytes) (omega (arith, length-drop sign bytes)) ∙ ap (drop sign) same)

abbrev number_by : (s : List ℕ) (n d : ℕ) → Result ℤ ErrorKind
number_by s n d = if d == 0 then Ok (pos 0) else number_or_range (whole_text (take (n + d) s))

by_lengths : (s : List ℕ) (n d : ℕ) → n ≡ sign_bytes s → d ≡ prefix_len is_ascii_digit (drop n s) → number_by s n d ≡ front_number s
by_lengths s n d e f =
    ap (number_by s n) f ∙ ap (λ (k : ℕ). number_by s k (prefix_len is_ascii_digit (drop k s))) e

pub no_digits : (s : List ℕ) (n d : ℕ) → n ≡ sign_bytes s → d ≡ prefix_len is_ascii_digit (drop n s) → d ≡ 0 → front_number s ≡ Ok (pos 0)
no_digits s n d e f z = sym (by_lengths s n d e f) ∙ ap (number_by s n) z

not_zero : (d : ℕ) (t : Bool) → (d == 0) ≡ t → d ≢ 0 → t ≡ false
not_zero d true e h = absurd (h (grind (arith, nat_tests)))
not_zero d false e h = refl

pub some_digits : (s front : List ℕ) (n d : ℕ) → n ≡ sign_bytes s → d ≡ prefix_len is_ascii_digit (drop n s) → d ≢ 0 → front ≡ take (n + d) s → number_or_range (whole_text front) ≡ front_number s
some_digits s front n d e f h t =
    let given : (d == 0) ≡ false = not_zero d (d == 0) refl h in
    ap (λ (u : List ℕ). number_or_range (whole_text u)) t ∙ sym (ap (λ (b : Bool). if b then Ok (pos 0) else number_or_range (whole_text (take (n + d) s))) given) ∙ by_lengths s n d e f
