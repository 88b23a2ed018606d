-- A quotient is the nearest.
use Rattle.std.proofs.Common.{◌≡◌, ℕ, ◌+◌, ◌-◌, ◌*◌, ◌^◌, ◌<◌, ◌≤◌, sym, ap, ◌∙◌, arith, unsigned_abs}
use Rattle.std.proofs.lemmas.Nat.{pow-add}
use Rattle.std.proofs.Math.Nat.{mul_assoc, mul-le-mul_left, mul-lt-mul_of_pos_left}
use Rattle.liquid_filters.specs.Rounding.{nearest}
use Rattle.liquid_filters.proofs.Roundings.{floor_meets, pow_pos10}
use Rattle.liquid_decimals.specs.Decimals.{quotient_size}
use Rattle.liquid_decimals.specs.Laws.{QuotientIsNearest, dividend_size, divisor_size}

nearest_meets : (n s : ℕ) → 0 < s → (2 * (nearest n s * s) ≤ 2 * n + s) × (2 * n < 2 * (nearest n s * s) + s)
nearest_meets n s h =
    let f = floor_meets (2 * n + s) (2 * s) (omega arith) in
    let q = nearest n s in
    let e : q * (2 * s) ≡ 2 * (q * s) = omega arith in
    let g : (q + 1) * (2 * s) ≡ 2 * (q * s) + 2 * s = omega arith in
    (omega (arith, f.0, e), omega (arith, f.1, g))

scaled : (x n d g : ℕ) → 0 < g → (2 * x ≤ 2 * n + d) × (2 * n < 2 * x + d) → (2 * (g * x) ≤ 2 * (g * n) + g * d) × (2 * (g * n) < 2 * (g * x) + g * d)
scaled x n d g p h =
    let a = mul-le-mul_left g h.0 in
    let b = mul-lt-mul_of_pos_left h.1 p in
    (omega (arith, a), omega (arith, b))

-- ten to i + c is a multiple of ten to c
whole : (a i c m : ℕ) → i + c ≡ m → 10 ^ c * (a * 10 ^ i) ≡ a * 10 ^ m
whole a i c m e =
    let p : 10 ^ m ≡ 10 ^ i * 10 ^ c = ap (λ k. 10 ^ k) (sym e) ∙ pow-add 10 i c in
    let r : 10 ^ c * (a * 10 ^ i) ≡ (a * 10 ^ i) * 10 ^ c = omega arith in
    r ∙ mul_assoc a (10 ^ i) (10 ^ c) ∙ ap (λ t. a * t) (sym p)

moved : (g q d : ℕ) → g * (q * d) ≡ q * (g * d)
moved g q d =
    let a : (g * q) * d ≡ g * (q * d) = mul_assoc g q d in
    let b : (q * g) * d ≡ q * (g * d) = mul_assoc q g d in
    let c : g * q ≡ q * g = omega arith in
    sym a ∙ ap (λ t. t * d) c ∙ b

positive : (b j : ℕ) → 0 < b → 0 < b * 10 ^ j
positive b j h = let p = pow_pos10 j in let m = mul-le-mul_left b p in omega (arith, m)

pub is_nearest : QuotientIsNearest
is_nearest p a b h =
    let top = unsigned_abs a.units in
    let low = unsigned_abs b.units in
    let m = b.places + p in
    let k = a.places in
    let i = m - k in
    let j = k - m in
    let c = m - i in
    let n = top * 10 ^ i in
    let d = low * 10 ^ j in
    let q = quotient_size p a b in
    let s = scaled (q * d) n d (10 ^ c) (pow_pos10 c) (nearest_meets n d (positive low j h)) in
    let wide : 10 ^ c * n ≡ dividend_size p a b = whole top i c m (omega arith) in
    let deep : 10 ^ c * d ≡ divisor_size a b = whole low j c k (omega arith) in
    let both : 10 ^ c * (q * d) ≡ q * divisor_size a b = moved (10 ^ c) q d ∙ ap (λ t. q * t) deep in
    (omega (arith, s.0, wide, deep, both), omega (arith, s.1, wide, deep, both))
