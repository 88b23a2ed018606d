-- Where a text may be cut: beside an ASCII byte.
use Rattle.std.proofs.Common.{◌≡◌, ℕ, ◌+◌, ◌-◌, ◌<◌, ◌≤◌, List, length, get_or, Bool, true, false, arith, nat_lt, eqb, refl, subst, sym}
use Rattle.std.specs.List.{prefix_len}
use Rattle.std.specs.Str.{IsUtf8, IsCharBoundary}
use Rattle.std.proofs.lemmas.Bool.Decides.{nat_tests}
use Rattle.std.proofs.lemmas.List.Sums.{prefix_len-le-length, prefix_len_passes, prefix_len_stops}
use Rattle.liquid_model.proofs.Cuts.{after_ascii}
use Rattle.std.specs.List.{suffix_len}
use Rattle.liquid_model.specs.Front.{run_len}
use Rattle.liquid_yaml.specs.Bytes.{in_plain, is_space_byte, is_key_byte, is_trailing}
use Rattle.liquid_yaml.specs.Lines.{in_quoted_key}

-- what passes is below 128
module _ (p : ℕ → Bool) (low : (b : ℕ) → p b ≡ true → b < 128) where
  pub prefix_cut : (bs : List ℕ) → IsUtf8 bs → IsCharBoundary bs (prefix_len p bs)
  prefix_cut bs u = after_ascii bs (prefix_len p bs) u (prefix_len-le-length p bs)
      (λ h. low _ (prefix_len_passes p bs (prefix_len p bs - 1) 0 (omega arith)))

space_low : (b : ℕ) → is_space_byte b ≡ true → b < 128
space_low b h = grind (arith, nat_tests)

key_low : (b : ℕ) → is_key_byte b ≡ true → b < 128
key_low b h = grind (arith, nat_tests)

trailing_low : (b : ℕ) → is_trailing b ≡ true → b < 128
trailing_low b h = grind (arith, nat_tests)

pub space_cut : (bs : List ℕ) → IsUtf8 bs → IsCharBoundary bs (prefix_len is_space_byte bs)
space_cut = prefix_cut is_space_byte space_low

pub key_cut : (bs : List ℕ) → IsUtf8 bs → IsCharBoundary bs (prefix_len is_key_byte bs)
key_cut = prefix_cut is_key_byte key_low

cut_before : (bs : List ℕ) (n : ℕ) → n ≤ length bs → (n < length bs → get_or bs n 0 < 128) → IsCharBoundary bs n
cut_before bs n within low = (within, λ l h. absurd (omega (arith, low l)))

pub trimmed_cut : (bs : List ℕ) (n : ℕ) → n ≤ length bs → (n < length bs → is_trailing (get_or bs n 0) ≡ true) → IsCharBoundary bs n
trimmed_cut bs n within ends = cut_before bs n within (λ l. trailing_low _ (ends l))

stop_low : (q b : ℕ) → q ≤ 127 → in_quoted_key q b ≡ false → b < 128
stop_low q b low h = grind (arith, nat_tests)

-- a key in quotes ends before a byte below 128, or at the end
pub quoted_key_cut : (q : ℕ) (bs : List ℕ) → q ≤ 127 → IsCharBoundary bs (prefix_len (in_quoted_key q) bs)
quoted_key_cut q bs low = cut_before bs (prefix_len (in_quoted_key q) bs) (prefix_len-le-length (in_quoted_key q) bs) (λ l. stop_low q _ low (prefix_len_stops (in_quoted_key q) bs 0 l))

-- a text in quotes ends before the quote, or at the end
pub quoting_cut : (q : ℕ) (bs : List ℕ) (n : ℕ) → q ≤ 127 → n ≤ length bs → (n < length bs → get_or bs n 0 ≡ q) → IsCharBoundary bs n
quoting_cut q bs n low within ends = cut_before bs n within (λ l. let e = ends l in omega (arith, e, low))

-- a part ends before a byte below 128, or at the end
pub flow_cut : (bs : List ℕ) (n : ℕ) → n ≤ length bs → (n < length bs → get_or bs n 0 < 128) → IsCharBoundary bs n
flow_cut = cut_before

pub after_flow_cut : (bs : List ℕ) (n : ℕ) → IsUtf8 bs → n < length bs → (n < length bs → get_or bs n 0 < 128) → IsCharBoundary bs (n + 1)
after_flow_cut bs n u within ends =
    after_ascii bs (n + 1) u (omega arith) (λ h. let same : n + 1 - 1 ≡ n = omega arith in subst (λ k. get_or bs k 0 < 128) (sym same) (ends within))

-- a text may be cut before its last byte, where that is below 128
pub last_cut : (bs : List ℕ) → 0 < length bs → get_or bs (length bs - 1) 0 < 128 → IsCharBoundary bs (length bs - 1)
last_cut bs l low = cut_before bs (length bs - 1) (omega arith) (λ h. low)

pub fed_cut : (bs : List ℕ) (n : ℕ) → n ≤ length bs → (n < length bs → eqb (get_or bs n 0) 10 ≡ true) → IsCharBoundary bs n
fed_cut bs n within ends = cut_before bs n within (λ l. let e = ends l in grind (arith, nat_tests))

-- a text may be cut after some of the spaces at its front
pub column_cut : (bs : List ℕ) (n : ℕ) → IsUtf8 bs → n ≤ prefix_len is_space_byte bs → IsCharBoundary bs n
column_cut bs n u within =
    let all = prefix_len-le-length is_space_byte bs in
    column_by bs n u within (nat_lt n (prefix_len is_space_byte bs)) refl
  where
    column_by : (bs : List ℕ) (n : ℕ) → IsUtf8 bs → n ≤ prefix_len is_space_byte bs → (b : Bool) → nat_lt n (prefix_len is_space_byte bs) ≡ b → IsCharBoundary bs n
    column_by bs n u within true e =
        let all = prefix_len-le-length is_space_byte bs in
        let l : n < prefix_len is_space_byte bs = grind (arith, nat_tests) in
        cut_before bs n (omega (arith, all, within)) (λ h. space_low _ (prefix_len_passes is_space_byte bs n 0 l))
    column_by bs n u within false e =
        let same : prefix_len is_space_byte bs ≡ n = grind (arith, nat_tests) in
        subst (IsCharBoundary bs) same (space_cut bs u)

pub plain_cut : (bs : List ℕ) (n : ℕ) → n ≤ length bs → (n < length bs → get_or bs n 0 < 128) → IsCharBoundary bs n
plain_cut = cut_before

pub plain_low : (b : ℕ) (bs : List ℕ) → in_plain b bs ≡ false → b < 128
plain_low b bs h = grind (arith, nat_tests)
