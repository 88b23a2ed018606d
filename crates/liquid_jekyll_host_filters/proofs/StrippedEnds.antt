-- Where a text may be cut: after and before what Ruby strips, and after a language. All of it is
-- ASCII.
use Rattle.std.proofs.Common.{◌≡◌, ℕ, ◌-◌, ◌<◌, ◌≤◌, Bool, true, List, length, get_or, reverse, ap, subst, ◌∙◌, arith}
use Rattle.std.proofs.lemmas.Bool.Decides.{nat_tests}
use Rattle.std.proofs.lemmas.List.{get_or-reverse}
use Rattle.std.proofs.lemmas.List.Sums.{prefix_len_passes, suffix_len-le-length}
use Rattle.std.specs.List.{prefix_len, suffix_len}
use Rattle.std.specs.Str.{IsCharBoundary, IsUtf8}
use Rattle.liquid_jekyll_host_filters.specs.Highlight.{in_language, is_ruby_stripped}
use Rattle.liquid_jekyll_host_filters.proofs.Fronts.{boundary}

stripped_low : (b : ℕ) → is_ruby_stripped b ≡ true → b < 128
stripped_low b h = grind (arith, nat_tests)

language_low : (b : ℕ) → in_language b ≡ true → b < 128
language_low b h = grind (arith, nat_tests)

ascii_cut : (p : ℕ → Bool) → ((b : ℕ) → p b ≡ true → b < 128) → (bs : List ℕ) (n : ℕ) → IsUtf8 bs → n ≤ length bs → n ≡ prefix_len p bs → IsCharBoundary bs n
ascii_cut p low bs n u l e = boundary bs n u l (λ k i. low (get_or bs k 0) (prefix_len_passes p bs k 0 (subst (λ m. k < m) e i)))

pub front_cut : (bs : List ℕ) (n : ℕ) → IsUtf8 bs → n ≤ length bs → n ≡ prefix_len is_ruby_stripped bs → IsCharBoundary bs n
front_cut = ascii_cut is_ruby_stripped stripped_low

pub language_cut : (bs : List ℕ) (n : ℕ) → IsUtf8 bs → n ≤ length bs → n ≡ prefix_len in_language bs → IsCharBoundary bs n
language_cut = ascii_cut in_language language_low

stripped_then : (bs : List ℕ) → length bs - suffix_len is_ruby_stripped bs < length bs → 128 ≤ get_or bs (length bs - suffix_len is_ruby_stripped bs) 0 → ⊥
stripped_then bs l h =
    let n = suffix_len is_ruby_stripped bs in
    let le = suffix_len-le-length is_ruby_stripped bs in
    let some : 0 < n = omega (arith, l) in
    let before : n - 1 < n = omega (arith, some) in
    let in_list : n - 1 < length bs = omega (arith, some, le) in
    let low = stripped_low (get_or (reverse bs) (n - 1) 0) (prefix_len_passes is_ruby_stripped (reverse bs) (n - 1) 0 before) in
    let at : length bs - 1 - (n - 1) ≡ length bs - n = omega (arith, some, le) in
    let same : get_or (reverse bs) (n - 1) 0 ≡ get_or bs (length bs - n) 0 = get_or-reverse bs (n - 1) 0 in_list ∙ ap (λ i. get_or bs i 0) at in
    absurd (omega (arith, low, same, h))

pub back_cut : (bs : List ℕ) → IsCharBoundary bs (length bs - suffix_len is_ruby_stripped bs)
back_cut bs = (omega arith, λ l h. absurd (stripped_then bs l h))
