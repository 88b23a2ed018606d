-- What the filters over numbers answer, in the words of arithmetic; each relation holds of one
-- answer alone.
use Rattle.std.specs.Prelude.{◌≡◌, ◌≢◌, ◌⊎◌, ℤ, pos, neg_ℤ, ◌+ℤ◌, ◌*ℤ◌, ◌≤ℤ◌, Bool, true, false}
use Rattle.std.specs.Prelude.{◌&&◌, MatchBool, MatchOption, List, Ok, Err, Option, Some, None}
use Rattle.std.specs.Ordering.{int_eq}
use Rattle.liquid_model.specs.Answer.{IsTheOne}
use Rattle.liquid_model.specs.Data.{Datum, number, scalar}
use Rattle.liquid_model.specs.Whole.{whole}
use Rattle.liquid_model.specs.declared.error.ErrorKind.{ErrorKind}
use Rattle.liquid_model.specs.declared.error.ErrorKind.TheVariants.{InvalidInput, InvalidArgument}
use Rattle.liquid_model.specs.declared.error.ErrorKind.TheVariants.{DivideByZero, Float}
use Rattle.liquid_model.specs.Arguments.{Answer}
use Rattle.liquid_model.specs.Satisfies.{WithFirst}
use Rattle.liquid_filters.specs.Decimals.{is_decimal_text}
use Rattle.liquid_filters.specs.Division.{IsDivision}
use Rattle.liquid_filters.specs.Numbers.{in_range, unlike, plus, minus, times, divided_by}
use Rattle.liquid_filters.specs.Numbers.{modulo, at_least, at_most, abs}

-- ---- what is answered for two whole numbers
abbrev pub IsSum : ℤ → ℤ → Answer → Type 0
IsSum a b x = x ≡ in_range (a +ℤ b)

-- what with b gives a
abbrev pub IsDifference : ℤ → ℤ → Answer → Type 0
IsDifference a b x = (z : ℤ) × (z +ℤ b ≡ a) × (x ≡ in_range z)

abbrev pub IsProduct : ℤ → ℤ → Answer → Type 0
IsProduct a b x = x ≡ in_range (a *ℤ b)

abbrev pub IsQuotient : ℤ → ℤ → Answer → Type 0
IsQuotient a b x = (q : ℤ) × (r : ℤ) × IsDivision a b q r × (x ≡ in_range q)

abbrev pub IsRemainder : ℤ → ℤ → Answer → Type 0
IsRemainder a b x = (q : ℤ) × (r : ℤ) × IsDivision a b q r × (x ≡ Ok (number r))

-- one of both, and neither is above it
abbrev pub IsGreater : ℤ → ℤ → Answer → Type 0
IsGreater a b x = (z : ℤ) × ((z ≡ a) ⊎ (z ≡ b)) × (a ≤ℤ z) × (b ≤ℤ z) × (x ≡ Ok (number z))

-- one of both, and neither is below it
abbrev pub IsLesser : ℤ → ℤ → Answer → Type 0
IsLesser a b x = (z : ℤ) × ((z ≡ a) ⊎ (z ≡ b)) × (z ≤ℤ a) × (z ≤ℤ b) × (x ≡ Ok (number z))

-- ---- the steps of a filter with an operand, the first that applies
abbrev pub StepsOf : (ℤ → ℤ → Answer → Type 0) → Bool → Bool → Bool → ErrorKind → Option ℤ →
    Option ℤ → Answer → Type 0
StepsOf R divides false operand_scalar kind a b x = x ≡ Err InvalidInput
StepsOf R divides true false kind a b x = x ≡ Err InvalidArgument
StepsOf R divides true true kind a None x = x ≡ Err kind
StepsOf R divides true true kind a (Some b) x =
    MatchBool (divides && int_eq b (pos 0)) (x ≡ Err DivideByZero)
    (MatchOption a (x ≡ Err kind) (λ n. R n b x))

abbrev pub OperandSteps : (ℤ → ℤ → Answer → Type 0) → Bool → Datum → Datum → Answer → Type 0
OperandSteps R divides d e x = StepsOf R divides (scalar d) (scalar e) (unlike d e) (whole d)
    (whole e) x

-- with the first argument as the operand, where there is one
abbrev pub StepsWith : (ℤ → ℤ → Answer → Type 0) → Bool → Datum → List Datum → Answer → Type 0
StepsWith R divides d = WithFirst (λ e rest. OperandSteps R divides d e)

abbrev pub PlusIsOne : Type 0
PlusIsOne = (d e : Datum) → IsTheOne (OperandSteps IsSum false d e) (plus d e)

abbrev pub MinusIsOne : Type 0
MinusIsOne = (d e : Datum) → IsTheOne (OperandSteps IsDifference false d e) (minus d e)

abbrev pub TimesIsOne : Type 0
TimesIsOne = (d e : Datum) → IsTheOne (OperandSteps IsProduct false d e) (times d e)

abbrev pub DividedByIsOne : Type 0
DividedByIsOne = (d e : Datum) → IsTheOne (OperandSteps IsQuotient true d e) (divided_by d e)

abbrev pub ModuloIsOne : Type 0
ModuloIsOne = (d e : Datum) → IsTheOne (OperandSteps IsRemainder true d e) (modulo d e)

abbrev pub AtLeastIsOne : Type 0
AtLeastIsOne = (d e : Datum) → IsTheOne (OperandSteps IsGreater false d e) (at_least d e)

abbrev pub AtMostIsOne : Type 0
AtMostIsOne = (d e : Datum) → IsTheOne (OperandSteps IsLesser false d e) (at_most d e)

-- ---- of one whole number: it or its opposite, and not below 0
abbrev pub AbsoluteOf : Bool → Option ℤ → Bool → Answer → Type 0
AbsoluteOf false a decimal x = x ≡ Err InvalidInput
AbsoluteOf true (Some a) decimal x = (z : ℤ) × ((z ≡ a) ⊎ (z ≡ neg_ℤ a)) × (pos 0 ≤ℤ z) ×
    (x ≡ in_range z)
AbsoluteOf true None true x = x ≡ Err Float
AbsoluteOf true None false x = x ≡ Err InvalidInput

abbrev pub AbsIsOne : Type 0
AbsIsOne = (d : Datum) → IsTheOne (AbsoluteOf (scalar d) (whole d) (is_decimal_text d)) (abs d)

-- ---- laws
-- a number has one quotient and one remainder
abbrev pub DivisionIsOne : Type 0
DivisionIsOne = (a b : ℤ) → b ≢ pos 0 → (q r : ℤ) → IsDivision a b q r → (s t : ℤ) →
    IsDivision a b s t → (q ≡ s) × (r ≡ t)

-- where neither is refused, quotient times divisor plus remainder is the number
abbrev pub QuotientAndRemainder : Type 0
QuotientAndRemainder = (a b q r : ℤ) → divided_by (number a) (number b) ≡ Ok (number q) →
    modulo (number a) (number b) ≡ Ok (number r) → q *ℤ b +ℤ r ≡ a
