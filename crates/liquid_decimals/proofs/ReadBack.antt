-- The text of a decimal, read again.
use Rattle.std.proofs.Common.{◌≡◌, ℕ, zero, suc, ◌+◌, ◌-◌, ◌*◌, ◌^◌, ◌/◌, ◌%◌, ◌<◌, ◌≤◌, ℤ, pos, negsuc, List, [], ◌∷◌, ◌++◌, length, take, drop, eqb, cond, Bool, true, false, Ok, Err, Some, None, refl, sym, ap, ◌∙◌, arith, nat_le, ◌&&◌, not, unsigned_abs, if◌then◌else◌, append-nil, append_assoc}
use Rattle.std.specs.Prelude.{codes, nat_lt}
use Rattle.std.proofs.lemmas.Bool.Decides.{nat_tests}
use Rattle.std.proofs.lemmas.Fmt.{decimal_is_IsNumeral}
use Rattle.std.proofs.lemmas.Nat.{div-add-mod', mod_below}
use Rattle.std.proofs.lemmas.Str.{digit_value_digit}
use Rattle.std.proofs.lemmas.Str.Parse.{digit_from_value}
use Rattle.std.proofs.Math.Arith.{mod-mul}
use Rattle.std.proofs.Math.Nat.{div-le_self, pow-succ'}
use Rattle.std.proofs.Math.Seq.{take-append_seam, drop-append-add}
use Rattle.std.specs.Char.{digit_value}
use Rattle.std.specs.Fmt.{decimal}
use Rattle.std.specs.List.{position_or_len}
use Rattle.std.specs.Str.{all_ascii_digits}
use Rattle.std.specs.Str.Parse.{AllDigits, IsNumeral, digits_value, starts_with_minus, without_leading_sign, without_leading_plus}
use Rattle.liquid_model.proofs.Compares.{own}
use Rattle.liquid_model.specs.Data.{text}
use Rattle.liquid_model.specs.Whole.{fits}
use Rattle.liquid_filters.specs.Decimals.{IsReadFrom, is_numeral, is_point, whole_digits, fraction_digits}
use Rattle.liquid_filters.specs.Rounding.{signed}
use Rattle.liquid_filters.proofs.Decimals.{read_with_point, read_without_point}
use Rattle.liquid_filters.proofs.Roundings.{value_parts, pow_pos10}
use Rattle.liquid_model.specs.declared.error.ErrorKind.TheVariants.{NumberRange}
use Rattle.liquid_decimals.specs.Decimals.{Decimal, bounded, is_below_zero, most_decimal_places}
use Rattle.liquid_decimals.specs.Laws.{TextIsReadBack}
use Rattle.liquid_decimals.specs.Readings.{decimal_in, of_digits, found_decimal}
use Rattle.liquid_decimals.specs.Written.{decimal_text, digit_groups, fraction_text, last_digits, minus_sign}

-- ---- digits
abbrev nothing : List ℕ
nothing = []

no_separator : (b : Bool) → (if b then nothing else nothing) ≡ nothing
no_separator true = refl
no_separator false = refl

ungrouped : (ds : List ℕ) → digit_groups [] ds ≡ ds
ungrouped [] = refl
ungrouped (d ∷ ds) = ap (λ t. d ∷ (t ++ digit_groups [] ds)) (no_separator (nat_lt 0 (length ds) && eqb (length ds % 3) 0)) ∙ ap (λ t. d ∷ t) (ungrouped ds)

digit_is : (d : ℕ) → d < 10 → digit_value (48 + d) ≡ d
digit_is d h = grind (arith, nat_tests)

last_all : (p n : ℕ) → AllDigits 10 (last_digits p n)
last_all zero n = tt
last_all (suc p) n =
    let b = mod_below (n / 10 ^ p) 10 (omega arith) in
    let e = digit_is (n / 10 ^ p % 10) b in
    (omega arith, last_all p n)

last_length : (p n : ℕ) → length (last_digits p n) ≡ p
last_length zero n = refl
last_length (suc p) n = ap suc (last_length p n)

last_value : (p n : ℕ) → digits_value 10 (last_digits p n) ≡ n % 10 ^ p
last_value zero n = let b = mod_below n 1 (omega arith) in omega (arith, b)
last_value (suc p) n =
    let c = 48 + n / 10 ^ p % 10 in
    let b = mod_below (n / 10 ^ p) 10 (omega arith) in
    let e = digit_is (n / 10 ^ p % 10) b in
    let start : 0 * 10 + digit_value c ≡ digit_value c = omega arith in
    let one : digits_value 10 (c ∷ []) ≡ n / 10 ^ p % 10 = start ∙ e in
    let l = last_length p n in
    let parts : digits_value 10 (c ∷ last_digits p n) ≡ digits_value 10 (c ∷ []) * 10 ^ length (last_digits p n) + digits_value 10 (last_digits p n) = value_parts (c ∷ []) (last_digits p n) in
    let m : n % (10 * 10 ^ p) ≡ (n / 10 ^ p % 10) * 10 ^ p + n % 10 ^ p = mod-mul n (omega arith) (pow_pos10 p) in
    parts
    ∙ ap (λ v. v * 10 ^ length (last_digits p n) + digits_value 10 (last_digits p n)) one
    ∙ ap (λ k. (n / 10 ^ p % 10) * 10 ^ k + digits_value 10 (last_digits p n)) l
    ∙ ap (λ v. (n / 10 ^ p % 10) * 10 ^ p + v) (last_value p n)
    ∙ sym m ∙ ap (λ t. n % t) (sym (pow-succ' 10 p))

-- ---- the point
no_point : (c : ℕ) → digit_value c < 10 → eqb c 46 ≡ false
no_point c h = let r = digit_value_digit c (digit_from_value c h) in grind (arith, nat_tests)

point_at : (ds rest : List ℕ) → AllDigits 10 ds → position_or_len is_point (ds ++ rest) ≡ length ds + position_or_len is_point rest
point_at [] rest h = omega arith
point_at (c ∷ ds) rest h =
    ap (λ b. cond (not b) (1 + position_or_len is_point (ds ++ rest)) 0) (no_point c h.0)
    ∙ ap (λ n. 1 + n) (point_at ds rest h.1) ∙ omega arith

-- ---- the sign
first_digit : (c : ℕ) → digit_value c < 10 → (eqb c 45 ≡ false) × (eqb c 43 ≡ false)
first_digit c h = let r = digit_value_digit c (digit_from_value c h) in (grind (arith, nat_tests), grind (arith, nat_tests))

unsigned : (ds rest : List ℕ) → IsNumeral 10 ds → (starts_with_minus (ds ++ rest) ≡ false) × (without_leading_sign (ds ++ rest) ≡ ds ++ rest)
unsigned [] rest h = absurd (omega (arith, h.0))
unsigned (c ∷ ds) rest h =
    let f = first_digit c h.1.0 in
    (f.0, ap (λ b. cond b (ds ++ rest) (without_leading_plus (c ∷ (ds ++ rest)))) f.0 ∙ ap (λ b. drop (cond b 1 0) (c ∷ (ds ++ rest))) f.1)

not_below_zero : (n : ℕ) → is_below_zero (pos n) ≡ false
not_below_zero n = grind (arith, nat_tests)

sign_is : (u : ℤ) (ds rest : List ℕ) → IsNumeral 10 ds → (starts_with_minus (minus_sign u ++ (ds ++ rest)) ≡ is_below_zero u) × (without_leading_sign (minus_sign u ++ (ds ++ rest)) ≡ ds ++ rest)
sign_is (pos n) ds rest h = let r = unsigned ds rest h in (r.0 ∙ sym (not_below_zero n), r.1)
sign_is (negsuc n) ds rest h = (refl, refl)

signed_is : (u : ℤ) → signed (is_below_zero u) (unsigned_abs u) ≡ u
signed_is (pos n) = ap (λ b. signed b n) (not_below_zero n)
signed_is (negsuc n) = refl

-- ---- what is read
numeral : (ds : List ℕ) → IsNumeral 10 ds → is_numeral ds ≡ true
numeral ds h =
    let some : nat_lt 0 (length ds) ≡ true = let q = h.0 in grind (arith, nat_tests) in
    ap (λ b. b && all_ascii_digits ds) some ∙ own.from ds h.1

read_parts : (u : ℤ) (ws : List ℕ) (p n : ℕ) → IsNumeral 10 ws → IsReadFrom (minus_sign u ++ (ws ++ fraction_text (codes ".") p n)) (is_below_zero u) ws (last_digits p n)
read_parts u ws zero n h =
    let s = sign_is u ws [] h in
    let e = append-nil ws in
    read_without_point (minus_sign u ++ (ws ++ [])) ws (is_below_zero u) (sym e ∙ sym s.1) (sym s.0)
    (ap (λ t. position_or_len is_point t) (sym e) ∙ point_at ws [] h.1 ∙ omega arith) (numeral ws h)
read_parts u ws (suc p) n h =
    let fs = last_digits (suc p) n in
    let t = ws ++ (46 ∷ fs) in
    let s = sign_is u ws (46 ∷ fs) h in
    let at : position_or_len is_point t ≡ length ws = point_at ws (46 ∷ fs) h.1 ∙ omega arith in
    let some : IsNumeral 10 fs = (omega (arith, last_length (suc p) n), last_all (suc p) n) in
    read_with_point (minus_sign u ++ t) t ws fs (is_below_zero u) (sym s.1) (sym s.0)
    (omega (arith, at, length_more ws fs))
    (sym (take-append_seam ws (46 ∷ fs)) ∙ ap (λ k. take k t) (sym at))
    (sym (drop-append-add ws (46 ∷ fs) 1) ∙ ap (λ k. drop (k + 1) t) (sym at))
    (numeral ws h) (numeral fs some)
  where
    length_more : (xs ys : List ℕ) → length xs < length (xs ++ (46 ∷ ys))
    length_more [] ys = omega arith
    length_more (x ∷ xs) ys = let m = length_more xs ys in omega arith

read_as : (s : List ℕ) (negative : Bool) (ws fs : List ℕ) (d : Decimal) → IsReadFrom s negative ws fs → of_digits negative ws fs ≡ Ok d → decimal_in (text s) ≡ Ok (Some d)
read_as s negative ws fs d r e =
    ap (λ b. if b then found_decimal (of_digits (starts_with_minus s) (whole_digits s) (fraction_digits s)) else Ok None) r.decimal
    ∙ ap (λ b. found_decimal (of_digits b (whole_digits s) (fraction_digits s))) (sym r.sign)
    ∙ ap (λ w. found_decimal (of_digits negative w (fraction_digits s))) (sym r.before)
    ∙ ap (λ f. found_decimal (of_digits negative ws f)) (sym r.after)
    ∙ ap found_decimal e

within : (u : ℤ) (p : ℕ) → fits u ≡ true → p ≤ 18 → bounded u p ≡ Ok (record { units = u; places = p })
within u p f h =
    let few : nat_le p most_decimal_places ≡ true = grind (arith, nat_tests) in
    ap (λ b. if b && nat_le p most_decimal_places then Ok (record { units = u; places = p }) else Err NumberRange) f
    ∙ ap (λ b. if b then Ok (record { units = u; places = p }) else Err NumberRange) few

small : (u : ℤ) → fits u ≡ true → unsigned_abs u < 2 ^ 64
small (pos n) h = grind (arith, nat_tests)
small (negsuc n) h = grind (arith, nat_tests)

value_is : (p n : ℕ) → n < 2 ^ 64 → digits_value 10 (decimal (n / 10 ^ p) ++ last_digits p n) ≡ n
value_is p n h =
    let q = n / 10 ^ p in
    let ws = decimal q in
    let fs = last_digits p n in
    let w = decimal_is_IsNumeral q (omega (arith, div-le_self n (10 ^ p))) in
    value_parts ws fs
    ∙ ap (λ v. v * 10 ^ length fs + digits_value 10 fs) w.1
    ∙ ap (λ k. q * 10 ^ k + digits_value 10 fs) (last_length p n)
    ∙ ap (λ v. q * 10 ^ p + v) (last_value p n)
    ∙ div-add-mod' n (10 ^ p)

pub read_back : TextIsReadBack
read_back d f h =
    let u = d.units in
    let p = d.places in
    let n = unsigned_abs u in
    let ws = decimal (n / 10 ^ p) in
    let fs = last_digits p n in
    let part = fraction_text (codes ".") p n in
    let w = decimal_is_IsNumeral (n / 10 ^ p) (omega (arith, small u f, div-le_self n (10 ^ p))) in
    let shape : decimal_text d ≡ minus_sign u ++ (ws ++ part) =
    ap (λ t. (minus_sign u ++ t) ++ part) (ungrouped ws) ∙ append_assoc (minus_sign u) ws part in
    let digits : of_digits (is_below_zero u) ws fs ≡ Ok d =
    ap (λ v. bounded (signed (is_below_zero u) v) (length fs)) (value_is p n (small u f))
    ∙ ap (λ v. bounded v (length fs)) (signed_is u) ∙ ap (λ k. bounded u k) (last_length p n) ∙ within u p f h in
    ap (λ s. decimal_in (text s)) shape
    ∙ read_as (minus_sign u ++ (ws ++ part)) (is_below_zero u) ws fs d (read_parts u ws p n w.0) digits
