-- Each filter over numbers answers what its relation says, and that alone.
use Rattle.std.proofs.Common.{◌≡◌, ◌≢◌, ℤ, pos, negsuc, ◌+ℤ◌, ◌-ℤ◌, ◌*ℤ◌, ◌≤ℤ◌, neg_ℤ, refl, sym, ap, ◌∙◌, inl, inr, ⊎_elim, arith, ◌⊎◌, Bool, true, false, cond, if◌then◌else◌, ◌&&◌, Option, Some, None, Ok, Err, MatchBool, MatchOption}
use Rattle.std.specs.Int.{int_max, int_min}
use Rattle.std.specs.Int.RustNames.{int_lt, int_div, int_rem, unsigned_abs}
use Rattle.std.specs.Ordering.{int_eq}
use Rattle.std.proofs.lemmas.Bool.Decides.{Decides-int_eq}
use Rattle.std.proofs.lemmas.Int.{ints, quot-rem, int_max_is, int_min_is}
use Rattle.liquid_model.specs.Answer.{IsTheOne}
use Rattle.liquid_model.specs.Data.{Datum, number, scalar}
use Rattle.liquid_model.specs.Fallible.{◌>>=◌}
use Rattle.liquid_model.specs.Whole.{whole, fits}
use Rattle.liquid_model.specs.declared.error.ErrorKind.{ErrorKind}
use Rattle.liquid_model.specs.declared.error.ErrorKind.TheVariants.{InvalidInput, InvalidArgument, DivideByZero, Float}
use Rattle.liquid_model.specs.Arguments.{Answer}
use Rattle.liquid_model.proofs.Ones.{same_one}
use Rattle.liquid_filters.specs.Decimals.{is_decimal_text}
use Rattle.liquid_filters.specs.Numbers.{operands_of, both_or, or_range, in_range, unlike, plus, minus, times, divided_by, modulo, at_least, at_most, absolute, abs}
use Rattle.liquid_filters.specs.NumberLaws.{StepsOf, OperandSteps, IsSum, IsDifference, IsProduct, IsQuotient, IsRemainder, IsGreater, IsLesser, AbsoluteOf}
use Rattle.liquid_filters.proofs.Divisions.{division_is, division_meets}

-- ---- the steps stand for one answer, where the relation of two whole numbers does
abbrev NonZero : Bool → ℤ → Type 0
NonZero divides b = divides ≡ true → b ≢ pos 0

divisor_one : (R : ℤ → ℤ → Answer → Type 0) (f : ℤ → ℤ → Answer) (divides : Bool) → ((a b : ℤ) → NonZero divides b → IsTheOne (R a b) (f a b)) → (k : ErrorKind) (a : Option ℤ) (b : ℤ) (z : Bool) → divides && int_eq b (pos 0) ≡ z
    → IsTheOne (λ x. MatchBool z (x ≡ Err DivideByZero) (MatchOption a (x ≡ Err k) (λ n. R n b x)))
    ((if z then Err DivideByZero else both_or k a (Some b)) >>= λ p. f p.0 p.1)
divisor_one R f divides h k a b true e = same_one (Err DivideByZero)
divisor_one R f divides h k None b false e = same_one (Err k)
divisor_one R f true h k (Some n) b false e = h n b (λ t s. let g = (Decides-int_eq b (pos 0)).1 s in let u : ⊥ = cc in u)
divisor_one R f false h k (Some n) b false e = h n b (λ t. let u : ⊥ = cc in absurd u)

steps_of : (R : ℤ → ℤ → Answer → Type 0) (f : ℤ → ℤ → Answer) (divides : Bool) → ((a b : ℤ) → NonZero divides b → IsTheOne (R a b) (f a b)) → (s t : Bool) (k : ErrorKind) (a b : Option ℤ)
    → IsTheOne (StepsOf R divides s t k a b) (operands_of divides s t k a b >>= λ p. f p.0 p.1)
steps_of R f divides h false t k a b = same_one (Err InvalidInput)
steps_of R f divides h true false k a b = same_one (Err InvalidArgument)
steps_of R f true h true true k None None = same_one (Err k)
steps_of R f true h true true k (Some n) None = same_one (Err k)
steps_of R f false h true true k None None = same_one (Err k)
steps_of R f false h true true k (Some n) None = same_one (Err k)
steps_of R f divides h true true k a (Some b) = divisor_one R f divides h k a b (divides && int_eq b (pos 0)) refl

steps_one : (R : ℤ → ℤ → Answer → Type 0) (f : ℤ → ℤ → Answer) (divides : Bool) → ((a b : ℤ) → NonZero divides b → IsTheOne (R a b) (f a b)) → (d e : Datum)
    → IsTheOne (OperandSteps R divides d e) (operands_of divides (scalar d) (scalar e) (unlike d e) (whole d) (whole e) >>= λ p. f p.0 p.1)
steps_one R f divides h d e = steps_of R f divides h (scalar d) (scalar e) (unlike d e) (whole d) (whole e)

-- ---- the relations of two whole numbers
pub plus_one : (d e : Datum) → IsTheOne (OperandSteps IsSum false d e) (plus d e)
plus_one = steps_one IsSum (λ a b. in_range (a +ℤ b)) false (λ a b n. same_one (in_range (a +ℤ b)))

pub times_one : (d e : Datum) → IsTheOne (OperandSteps IsProduct false d e) (times d e)
times_one = steps_one IsProduct (λ a b. in_range (a *ℤ b)) false (λ a b n. same_one (in_range (a *ℤ b)))

difference_one : (a b : ℤ) → NonZero false b → IsTheOne (IsDifference a b) (in_range (a -ℤ b))
difference_one a b n = λ x. (λ h. let e : h.0 ≡ a -ℤ b = omega (arith, ints, h.1) in h.2 ∙ ap in_range e, λ e. (a -ℤ b, omega (arith, ints), e))

pub minus_one : (d e : Datum) → IsTheOne (OperandSteps IsDifference false d e) (minus d e)
minus_one = steps_one IsDifference (λ a b. in_range (a -ℤ b)) false difference_one

quotient_one : (a b : ℤ) → NonZero true b → IsTheOne (IsQuotient a b) (in_range (int_div a b))
quotient_one a b n = λ x. (λ h. h.3 ∙ ap in_range (division_is a b h.0 h.1 h.2).0, λ e. (int_div a b, int_rem a b, division_meets a b (n refl), e))

pub divided_by_one : (d e : Datum) → IsTheOne (OperandSteps IsQuotient true d e) (divided_by d e)
divided_by_one = steps_one IsQuotient (λ a b. in_range (int_div a b)) true quotient_one

remainder_one : (a b : ℤ) → NonZero true b → IsTheOne (IsRemainder a b) (Ok (number (int_rem a b)))
remainder_one a b n = λ x. (λ h. h.3 ∙ ap (λ z. Ok (number z)) (division_is a b h.0 h.1 h.2).1, λ e. (int_div a b, int_rem a b, division_meets a b (n refl), e))

pub modulo_one : (d e : Datum) → IsTheOne (OperandSteps IsRemainder true d e) (modulo d e)
modulo_one = steps_one IsRemainder (λ a b. Ok (number (int_rem a b))) true remainder_one

either : (a b : ℤ) (t : Bool) → (cond t a b ≡ a) ⊎ (cond t a b ≡ b)
either a b true = inl refl
either a b false = inr refl

greater_is : (a b z : ℤ) → (z ≡ a) ⊎ (z ≡ b) → a ≤ℤ z → b ≤ℤ z → z ≡ int_max a b
greater_is a b z h l m = ⊎_elim (λ e. omega (arith, ints, e, int_max_is a b)) (λ e. omega (arith, ints, e, int_max_is a b)) h

greater_one : (a b : ℤ) → NonZero false b → IsTheOne (IsGreater a b) (Ok (number (int_max a b)))
greater_one a b n = λ x. (λ h. h.4 ∙ ap (λ z. Ok (number z)) (greater_is a b h.0 h.1 h.2 h.3), λ e. (int_max a b, either a b (int_lt b a), omega (arith, ints, int_max_is a b), omega (arith, ints, int_max_is a b), e))

pub at_least_one : (d e : Datum) → IsTheOne (OperandSteps IsGreater false d e) (at_least d e)
at_least_one = steps_one IsGreater (λ a b. Ok (number (int_max a b))) false greater_one

lesser_is : (a b z : ℤ) → (z ≡ a) ⊎ (z ≡ b) → z ≤ℤ a → z ≤ℤ b → z ≡ int_min a b
lesser_is a b z h l m = ⊎_elim (λ e. omega (arith, ints, e, int_min_is a b)) (λ e. omega (arith, ints, e, int_min_is a b)) h

swapped : (a b : ℤ) (t : Bool) → (cond t b a ≡ a) ⊎ (cond t b a ≡ b)
swapped a b true = inr refl
swapped a b false = inl refl

lesser_one : (a b : ℤ) → NonZero false b → IsTheOne (IsLesser a b) (Ok (number (int_min a b)))
lesser_one a b n = λ x. (λ h. h.4 ∙ ap (λ z. Ok (number z)) (lesser_is a b h.0 h.1 h.2 h.3), λ e. (int_min a b, swapped a b (int_lt b a), omega (arith, ints, int_min_is a b), omega (arith, ints, int_min_is a b), e))

pub at_most_one : (d e : Datum) → IsTheOne (OperandSteps IsLesser false d e) (at_most d e)
at_most_one = steps_one IsLesser (λ a b. Ok (number (int_min a b))) false lesser_one

-- ---- the absolute value
absolute_is : (a z : ℤ) → (z ≡ a) ⊎ (z ≡ neg_ℤ a) → pos 0 ≤ℤ z → z ≡ pos (unsigned_abs a)
absolute_is a z h l = ⊎_elim (λ e. omega (arith, ints, e)) (λ e. omega (arith, ints, e)) h

absolute_meets : (a : ℤ) → (pos (unsigned_abs a) ≡ a) ⊎ (pos (unsigned_abs a) ≡ neg_ℤ a)
absolute_meets (pos n) = inl refl
absolute_meets (negsuc n) = inr refl

absolute_one : (s : Bool) (a : Option ℤ) (decimal : Bool) → IsTheOne (AbsoluteOf s a decimal) (if s then absolute a decimal else Err InvalidInput)
absolute_one false a decimal = same_one (Err InvalidInput)
absolute_one true (Some a) decimal = λ x. (λ h. h.3 ∙ ap in_range (absolute_is a h.0 h.1 h.2), λ e. (pos (unsigned_abs a), absolute_meets a, omega (arith, ints), e))
absolute_one true None true = same_one (Err Float)
absolute_one true None false = same_one (Err InvalidInput)

pub abs_one : (d : Datum) → IsTheOne (AbsoluteOf (scalar d) (whole d) (is_decimal_text d)) (abs d)
abs_one d = absolute_one (scalar d) (whole d) (is_decimal_text d)

-- ---- quotient times divisor plus remainder
in_range_is : (z q : ℤ) (t : Bool) → fits z ≡ t → or_range (if t then Some z else None) ≡ Ok (number q) → z ≡ q
in_range_is z q true e h = cc
in_range_is z q false e h = cc

quotient_is : (a b q : ℤ) (t : Bool) → ((if t then Err DivideByZero else both_or Float (Some a) (Some b)) >>= λ p. in_range (int_div p.0 p.1)) ≡ Ok (number q) → int_div a b ≡ q
quotient_is a b q true h = cc
quotient_is a b q false h = in_range_is (int_div a b) q (fits (int_div a b)) refl h

remainder_is : (a b r : ℤ) (t : Bool) → ((if t then Err DivideByZero else both_or Float (Some a) (Some b)) >>= λ p. Ok (number (int_rem p.0 p.1))) ≡ Ok (number r) → int_rem a b ≡ r
remainder_is a b r true h = cc
remainder_is a b r false h = cc

pub quotient_and_remainder : (a b q r : ℤ) → divided_by (number a) (number b) ≡ Ok (number q) → modulo (number a) (number b) ≡ Ok (number r) → q *ℤ b +ℤ r ≡ a
quotient_and_remainder a b q r h e =
    let x = quotient_is a b q (int_eq b (pos 0)) h in
    let y = remainder_is a b r (int_eq b (pos 0)) e in
    ap (λ z. z *ℤ b +ℤ r) (sym x) ∙ ap (λ z. int_div a b *ℤ b +ℤ z) (sym y) ∙ quot-rem a b
