-- A decimal text is brought to the one whole number that its relation tells.
use Rattle.std.proofs.Common.{◌≡◌, ◌⊎◌, ℕ, zero, suc, ◌+◌, ◌*◌, ◌<◌, ◌≤◌, ℤ, pos, negsuc, ◌-ℤ◌, ◌*ℤ◌, ◌≤ℤ◌, ◌<ℤ◌, neg_ℤ, List, [], ◌∷◌, ◌++◌, length, Bool, true, false, not, Option, Some, None, Ok, Err, MatchBool, MatchOption, refl, sym, ap, subst, ◌∙◌, inl, inr, ⊎_elim, arith, if◌then◌else◌}
use Rattle.std.proofs.lemmas.Int.{ints}
use Rattle.std.specs.Int.RustNames.{int_le, int_lt, unsigned_abs}
use Rattle.std.specs.Str.Parse.{digits_value, starts_with_minus}
use Rattle.liquid_model.specs.Answer.{IsTheOne}
use Rattle.liquid_model.specs.Data.{Datum, nil, truth, number, text, array, object}
use Rattle.liquid_model.specs.Whole.{whole}
use Rattle.liquid_model.specs.declared.error.ErrorKind.TheVariants.{Float, InvalidArgument, InvalidInput}
use Rattle.liquid_model.specs.Fallible.{◌>>=◌}
use Rattle.liquid_model.specs.Arguments.{number_or_fault}
use Rattle.liquid_model.proofs.Ones.{same_one}
use Rattle.liquid_filters.specs.Decimals.{is_decimal, is_decimal_text, whole_digits, fraction_digits}
use Rattle.liquid_filters.specs.Numbers.{in_range}
use Rattle.liquid_filters.specs.Rounding.{signed, nearest, magnitude, size, round, rounded, rounded_of, rounded_decimal, rounded_to, unrounded_of}
use Rattle.liquid_filters.specs.RoundingLaws.{scale, IsMultipleFor, IsBroughtTo, IsRounded, Rounds, RoundsTo, StaysWhole}
use Rattle.liquid_filters.specs.declared.stdlib.filters.math.decimal.Rounding.{Rounding}
use Rattle.liquid_filters.specs.declared.stdlib.filters.math.decimal.Rounding.TheVariants.{Nearest, Up, Down}
use Rattle.liquid_filters.proofs.Roundings.{floor_is, floor_meets, ceiling_is, ceiling_meets, pow_pos10}
use Rattle.liquid_filters.proofs.Divisions.{at_least}

-- ---- sizes and signs
abs_either : (z : ℤ) → (z ≡ pos (unsigned_abs z)) ⊎ (z ≡ neg_ℤ (pos (unsigned_abs z)))
abs_either (pos n) = inl refl
abs_either (negsuc n) = inr refl

abs_signed : (negative : Bool) (n : ℕ) → unsigned_abs (signed negative n) ≡ n
abs_signed false n = refl
abs_signed true zero = refl
abs_signed true (suc n) = refl

scaled : (negative : Bool) (m d : ℕ) → signed negative m *ℤ pos d ≡ signed negative (m * d)
scaled false m d = refl
scaled true zero d = omega (arith, ints)
scaled true (suc m) d = omega (arith, ints)

apart : (negative : Bool) (n y : ℕ) → (n ≡ y + unsigned_abs (signed negative n -ℤ signed negative y)) ⊎ (y ≡ n + unsigned_abs (signed negative n -ℤ signed negative y))
apart false n y = ⊎_elim (λ e. inl (omega (arith, ints, e))) (λ e. inr (omega (arith, ints, e))) (abs_either (pos n -ℤ pos y))
apart true n y = ⊎_elim (λ e. inr (omega (arith, ints, e))) (λ e. inl (omega (arith, ints, e))) (abs_either (neg_ℤ (pos n) -ℤ neg_ℤ (pos y)))

across : (negative : Bool) (n y : ℕ) → unsigned_abs (signed negative n -ℤ signed (not negative) y) ≡ n + y
across false n y = ⊎_elim (λ e. omega (arith, ints, e)) (λ e. omega (arith, ints, e)) (abs_either (pos n -ℤ neg_ℤ (pos y)))
across true n y = ⊎_elim (λ e. omega (arith, ints, e)) (λ e. omega (arith, ints, e)) (abs_either (neg_ℤ (pos n) -ℤ pos y))

-- of the sign, or of the other and not 0
of_sign : (negative : Bool) (z : ℤ) → ((m : ℕ) × (z ≡ signed negative m)) ⊎ ((k : ℕ) × (z ≡ signed (not negative) (suc k)))
of_sign false (pos m) = inl (m, refl)
of_sign false (negsuc k) = inr (k, refl)
of_sign true (pos zero) = inl (0, refl)
of_sign true (pos (suc k)) = inr (k, refl)
of_sign true (negsuc k) = inl (suc k, refl)

-- ---- the nearest one
above_bounds : (n y d D : ℕ) → 0 < d → 2 * D ≤ d → (2 * D ≡ d → n < y) → n ≡ y + D → (2 * y ≤ 2 * n + d) × (2 * n + d < 2 * y + 2 * d)
above_bounds n y d D p h t f = (omega arith, grind arith)

below_bounds : (n y d D : ℕ) → 0 < d → 2 * D ≤ d → y ≡ n + D → (2 * y ≤ 2 * n + d) × (2 * n + d < 2 * y + 2 * d)
below_bounds n y d D p h f = (omega arith, omega arith)

near_bounds : (n y d D : ℕ) → 0 < d → 2 * D ≤ d → (2 * D ≡ d → n < y) → (n ≡ y + D) ⊎ (y ≡ n + D) → (2 * y ≤ 2 * n + d) × (2 * n + d < 2 * y + 2 * d)
near_bounds n y d D p h t e = ⊎_elim (above_bounds n y d D p h t) (below_bounds n y d D p h) e

near_meets : (n y d D : ℕ) → 0 < d → 2 * y ≤ 2 * n + d → 2 * n + d < 2 * y + 2 * d → (n ≡ y + D) ⊎ (y ≡ n + D) → (2 * D ≤ d) × (2 * D ≡ d → n < y)
near_meets n y d D p h k e = ⊎_elim (λ f. (omega arith, λ g. omega arith)) (λ f. (omega arith, λ g. omega arith)) e

nearest_is : (n m d : ℕ) → 0 < d → (2 * (m * d) ≤ 2 * n + d) × (2 * n + d < 2 * (m * d) + 2 * d) → m ≡ nearest n d
nearest_is n m d p h = floor_is (2 * n + d) (2 * d) m (omega arith) (omega (arith, h.0)) (omega (arith, h.1))

nearest_meets : (n d : ℕ) → 0 < d → (2 * (nearest n d * d) ≤ 2 * n + d) × (2 * n + d < 2 * (nearest n d * d) + 2 * d)
nearest_meets n d p = let f = floor_meets (2 * n + d) (2 * d) (omega arith) in (omega (arith, f.0), omega (arith, f.1))

-- ---- a multiple of the number's own sign is the magnitude's
same_sign : (how : Rounding) (negative : Bool) (n m d : ℕ) → 0 < d → IsMultipleFor how (signed negative n) (signed negative (m * d)) d → m ≡ magnitude how negative n d
unfolding magnitude
same_sign Nearest negative n m d p h =
    let t : 2 * unsigned_abs (signed negative n -ℤ signed negative (m * d)) ≡ d → n < m * d = λ e. let f = h.1 e in omega (arith, f, abs_signed negative n, abs_signed negative (m * d)) in
    nearest_is n m d p (near_bounds n (m * d) d _ p h.0 t (apart negative n (m * d)))
same_sign Up true n m d p h = floor_is n d m p (omega (arith, ints, h.0)) (omega (arith, ints, h.1))
same_sign Up false n m d p h = ceiling_is n d m p (omega (arith, ints, h.0)) (omega (arith, ints, h.1))
same_sign Down true n m d p h = ceiling_is n d m p (omega (arith, ints, h.0)) (omega (arith, ints, h.1))
same_sign Down false n m d p h = floor_is n d m p (omega (arith, ints, h.0)) (omega (arith, ints, h.1))

other_sign : (how : Rounding) (negative : Bool) (n y d : ℕ) → 0 < d → d ≤ y → IsMultipleFor how (signed negative n) (signed (not negative) y) d → ⊥
other_sign Nearest negative n y d p l h = let e = across negative n y in omega (arith, h.0, e)
other_sign Up true n y d p l h = omega (arith, ints, h.1)
other_sign Up false n y d p l h = omega (arith, ints, h.0)
other_sign Down true n y d p l h = omega (arith, ints, h.0)
other_sign Down false n y d p l h = omega (arith, ints, h.1)

multiple_meets : (how : Rounding) (negative : Bool) (n d : ℕ) → 0 < d → IsMultipleFor how (signed negative n) (signed negative (magnitude how negative n d * d)) d
unfolding magnitude
multiple_meets Nearest negative n d p =
    let y = nearest n d * d in
    let b = nearest_meets n d p in
    let q = near_meets n y d _ p b.0 b.1 (apart negative n y) in
    (q.0, λ e. let f = q.1 e in omega (arith, f, abs_signed negative n, abs_signed negative y))
multiple_meets Up true n d p = let f = floor_meets n d p in (omega (arith, ints, f.0), omega (arith, ints, f.1))
multiple_meets Up false n d p = let f = ceiling_meets n d p in (omega (arith, ints, f.0), omega (arith, ints, f.1))
multiple_meets Down true n d p = let f = ceiling_meets n d p in (omega (arith, ints, f.0), omega (arith, ints, f.1))
multiple_meets Down false n d p = let f = floor_meets n d p in (omega (arith, ints, f.0), omega (arith, ints, f.1))

-- ---- the number
multiple_is : (how : Rounding) (negative : Bool) (n d : ℕ) (z : ℤ) → 0 < d → IsMultipleFor how (signed negative n) (z *ℤ pos d) d → z ≡ signed negative (magnitude how negative n d)
multiple_is how negative n d z p h =
    let M : ℤ → Type 0 = λ y. IsMultipleFor how (signed negative n) y d in
    ⊎_elim
    (λ s. let e : z *ℤ pos d ≡ signed negative (s.0 * d) = ap (λ x. x *ℤ pos d) s.1 ∙ scaled negative s.0 d in
    s.1 ∙ ap (signed negative) (same_sign how negative n s.0 d p (subst M e h)))
    (λ s. let e : z *ℤ pos d ≡ signed (not negative) (suc s.0 * d) = ap (λ x. x *ℤ pos d) s.1 ∙ scaled (not negative) (suc s.0) d in
    absurd (other_sign how negative n (suc s.0 * d) d p (at_least s.0 d) (subst M e h)))
    (of_sign negative z)

brought_meets : (how : Rounding) (negative : Bool) (n d : ℕ) → 0 < d → IsMultipleFor how (signed negative n) (signed negative (magnitude how negative n d) *ℤ pos d) d
brought_meets how negative n d p =
    let M : ℤ → Type 0 = λ y. IsMultipleFor how (signed negative n) y d in
    subst M (sym (scaled negative (magnitude how negative n d) d)) (multiple_meets how negative n d p)

brought_one : (how : Rounding) (s : List ℕ) → IsTheOne (IsBroughtTo how s) (rounded_decimal how s)
brought_one how s = λ x. (
  λ h. h.2 ∙ ap in_range (multiple_is how (starts_with_minus s) (digits_value 10 (whole_digits s ++ fraction_digits s)) (scale s) h.0 (pow_pos10 (length (fraction_digits s))) h.1),
  λ e. (signed (starts_with_minus s) (size how (starts_with_minus s) (whole_digits s) (fraction_digits s)), brought_meets how (starts_with_minus s) (digits_value 10 (whole_digits s ++ fraction_digits s)) (scale s) (pow_pos10 (length (fraction_digits s))), e),
)

text_one : (how : Rounding) (s : List ℕ) (decimal : Bool) → IsTheOne (λ x. MatchBool decimal (IsBroughtTo how s x) (x ≡ Err InvalidInput)) (if decimal then rounded_decimal how s else Err InvalidInput)
text_one how s true = brought_one how s
text_one how s false = same_one (Err InvalidInput)

rounded_at : (how : Rounding) (n : Option ℤ) (d : Datum) → IsTheOne (IsRounded how n d) (rounded_of how n d)
rounded_at how (Some n) d = same_one (Ok (number n))
rounded_at how None nil = same_one (Err InvalidInput)
rounded_at how None (truth b) = same_one (Err InvalidInput)
rounded_at how None (number z) = same_one (Err InvalidInput)
rounded_at how None (text s) = text_one how s (is_decimal s)
rounded_at how None (array ds) = same_one (Err InvalidInput)
rounded_at how None (object ps) = same_one (Err InvalidInput)

pub rounded_one : (how : Rounding) (d : Datum) → IsTheOne (IsRounded how (whole d) d) (rounded how d)
rounded_one how d = rounded_at how (whole d) d

-- ---- with places after the point
whole_one : (n : Option ℤ) (decimal : Bool) → IsTheOne (StaysWhole n decimal) (unrounded_of n decimal)
whole_one (Some n) decimal = same_one (Ok (number n))
whole_one None true = same_one (Err Float)
whole_one None false = same_one (Err InvalidInput)

places_one : (places : ℤ) (d : Datum) (t u : Bool) → int_le places (pos 0) ≡ t → int_lt (pos 2147483647) places ≡ u
    → IsTheOne (RoundsTo places d) (if t then rounded Nearest d else (if u then Err InvalidInput else unrounded_of (whole d) (is_decimal_text d)))
places_one places d true u e f =
    let low : places ≤ℤ pos 0 = grind (arith, ints) in
    λ x. (
      ⊎_elim (λ a. (rounded_one Nearest d x).0 a.1) (⊎_elim (λ b. absurd (omega (arith, ints, b.0, low))) (λ c. absurd (omega (arith, ints, c.0, low)))),
      λ q. inl (low, (rounded_one Nearest d x).1 q),
    )
places_one places d false true e f =
    let low : pos 0 <ℤ places = grind (arith, ints) in
    let high : pos 2147483647 <ℤ places = grind (arith, ints) in
    λ x. (
      ⊎_elim (λ a. absurd (omega (arith, ints, a.0, low))) (⊎_elim (λ b. b.1) (λ c. absurd (omega (arith, ints, c.1, high)))),
      λ q. inr (inl (high, q)),
    )
places_one places d false false e f =
    let low : pos 0 <ℤ places = grind (arith, ints) in
    let high : places ≤ℤ pos 2147483647 = grind (arith, ints) in
    λ x. (
      ⊎_elim (λ a. absurd (omega (arith, ints, a.0, low))) (⊎_elim (λ b. absurd (omega (arith, ints, b.0, high))) (λ c. (whole_one (whole d) (is_decimal_text d) x).0 c.2)),
      λ q. inr (inr (low, high, (whole_one (whole d) (is_decimal_text d) x).1 q)),
    )

read_one : (n : Option ℤ) (d : Datum) → IsTheOne (λ x. MatchOption n (x ≡ Err InvalidArgument) (λ places. RoundsTo places d x)) (number_or_fault n >>= λ places. rounded_to places d)
read_one None d = same_one (Err InvalidArgument)
read_one (Some places) d = places_one places d (int_le places (pos 0)) (int_lt (pos 2147483647) places) refl refl

pub round_one : (d : Datum) (args : List Datum) → IsTheOne (Rounds args d) (round d args)
round_one d [] = rounded_one Nearest d
round_one d (e ∷ es) = read_one (whole e) d
