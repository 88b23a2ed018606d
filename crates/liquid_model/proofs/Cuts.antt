-- Where a text may be cut: beside an ASCII byte.
use Rattle.std.proofs.Common.{◌≡◌, ℕ, zero, suc, ◌+◌, ◌-◌, ◌<◌, ◌≤◌, List, [], ◌∷◌, length, drop, get_or, Bool, true, false, not, ◌&&◌, ◌||◌, subst, arith, refl, eqb, ap, ◌∙◌}
use Rattle.std.proofs.lemmas.List.{get_or-drop, length-drop}
use Rattle.std.specs.Str.{IsUtf8, IsCharBoundary}
use Rattle.std.proofs.lemmas.Bool.Decides.{nat_tests}
use Rattle.liquid_model.specs.Bytes.{is_white, is_letter, is_digit, in_word, not_quote, closes}
use Rattle.liquid_model.specs.Front.{run_len, with_sign, sign_len, number_len}
use Rattle.std.proofs.lemmas.Str.{IsCharBoundary-start, IsCharBoundary-after_ascii}

-- a cut after a byte below 128
pub after_ascii : (bs : List ℕ) (n : ℕ) → IsUtf8 bs → n ≤ length bs → (0 < n → get_or bs (n - 1) 0 < 128) → IsCharBoundary bs n
after_ascii bs zero u l h = IsCharBoundary-start bs u
after_ascii bs (suc n) u l h = subst (IsCharBoundary bs) (omega arith) (IsCharBoundary-after_ascii bs n u (omega arith) (subst (λ k. get_or bs k 0 < 128) (omega arith) (h (omega arith))))

pub past_first : (bs : List ℕ) → IsUtf8 bs → 0 < length bs → get_or bs 0 0 < 128 → IsCharBoundary bs 1
past_first bs u l h = IsCharBoundary-after_ascii bs 0 u l h

module _ (t : ℕ → List ℕ → Bool) where
  pub run_within : (bs : List ℕ) → run_len t bs ≤ length bs
  run_within [] = omega arith
  run_within (b ∷ bs) = grind (arith, run_within bs)

  -- where what passes is below 128, so is each byte of a run
  run_low : ((b : ℕ) (bs : List ℕ) → t b bs ≡ true → b < 128) → (bs : List ℕ) (k : ℕ) → k < run_len t bs → get_or bs k 0 < 128
  run_low low [] k h = absurd (omega arith)
  run_low low (b ∷ bs) zero h = grind (arith, low b bs)
  run_low low (b ∷ bs) (suc k) h = grind (arith, run_low low bs k)

  pub run_cut : ((b : ℕ) (bs : List ℕ) → t b bs ≡ true → b < 128) → (bs : List ℕ) → IsUtf8 bs → IsCharBoundary bs (run_len t bs)
  run_cut low bs u = after_ascii bs (run_len t bs) u (run_within bs) (λ h. run_low low bs _ (omega arith))

pub white_low : (b : ℕ) (bs : List ℕ) → is_white b bs ≡ true → b < 128
white_low b bs h = grind (arith, nat_tests)

pub white_cut : (bs : List ℕ) → IsUtf8 bs → IsCharBoundary bs (run_len is_white bs)
white_cut = run_cut is_white white_low

name_low : (b : ℕ) (bs : List ℕ) → (is_letter b || is_digit b bs || eqb b 45) ≡ true → b < 128
name_low b bs h = grind (arith, nat_tests)

both : (a b : Bool) → (a && b) ≡ true → a ≡ true
both true b h = refl
both false b h = h

pub word_low : (b : ℕ) (bs : List ℕ) → in_word b bs ≡ true → b < 128
unfolding in_word
word_low b bs h = name_low b bs (both (is_letter b || is_digit b bs || eqb b 45) (not (eqb b 45 && closes bs)) h)

pub word_cut : (bs : List ℕ) → IsUtf8 bs → IsCharBoundary bs (run_len in_word bs)
word_cut = run_cut in_word word_low

-- a run ends at the end, or before a byte that fails
run_stop : (q : ℕ) (bs : List ℕ) → run_len (not_quote q) bs < length bs → get_or bs (run_len (not_quote q) bs) 0 ≡ q
run_stop q [] h = absurd (omega arith)
run_stop q (b ∷ bs) h = grind (arith, nat_tests, run_stop q bs)

pub quote_cut : (q : ℕ) (bs : List ℕ) → q ≤ 127 → IsUtf8 bs → IsCharBoundary bs (run_len (not_quote q) bs)
quote_cut q bs low u = (run_within (not_quote q) bs, λ l h. absurd (omega (arith, run_stop q bs l)))

-- ---- a number

digit_low : (b : ℕ) (bs : List ℕ) → is_digit b bs ≡ true → b < 128
digit_low b bs h = grind (arith, nat_tests)

signed_cut : (bs : List ℕ) → IsUtf8 bs → (s n : ℕ) → s ≤ length bs → n ≡ run_len is_digit (drop s bs) → IsCharBoundary bs (with_sign s n)
signed_cut bs u s zero l e = IsCharBoundary-start bs u
signed_cut bs u s (suc n) l e =
    let within = run_within is_digit (drop s bs) in
    let len : length (drop s bs) ≡ length bs - s = length-drop s bs in
    let low : get_or (drop s bs) n 0 < 128 = run_low is_digit digit_low (drop s bs) n (omega (arith, e)) in
    let at : get_or (drop s bs) n 0 ≡ get_or bs (s + suc n - 1) 0 = get_or-drop s bs n 0 ∙ ap (λ i. get_or bs i 0) (omega arith) in
    after_ascii bs (s + suc n) u (omega (arith, e, within, len, l)) (λ h. omega (arith, low, at))

sign_within : (bs : List ℕ) → sign_len bs ≤ length bs
sign_within [] = omega arith
sign_within (b ∷ bs) = grind arith

pub number_cut : (bs : List ℕ) → IsUtf8 bs → IsCharBoundary bs (number_len bs)
number_cut bs u = signed_cut bs u (sign_len bs) (run_len is_digit (drop (sign_len bs) bs)) (sign_within bs) refl
