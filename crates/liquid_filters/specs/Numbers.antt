-- What the filters over numbers answer, and in what order they refuse.
use Rattle.std.specs.Prelude.{ℤ, pos, ◌+ℤ◌, ◌-ℤ◌, ◌*ℤ◌, Bool, true, false, ◌&&◌, ◌||◌, not, List}
use Rattle.std.specs.Prelude.{[], ◌∷◌, Result, Ok, Err, Option, Some, None, int_div, int_rem}
use Rattle.std.specs.Prelude.{if◌then◌else◌, is_some, unsigned_abs}
use Rattle.std.specs.Int.{int_max, int_min}
use Rattle.std.specs.Ordering.{int_eq}
use Rattle.liquid_model.specs.Data.{Datum, number, scalar}
use Rattle.liquid_model.specs.Fallible.{◌>>=◌}
use Rattle.liquid_model.specs.Whole.{whole}
use Rattle.liquid_model.specs.declared.error.ErrorKind.{ErrorKind}
use Rattle.liquid_model.specs.declared.error.ErrorKind.TheVariants.{InvalidInput, InvalidArgument}
use Rattle.liquid_model.specs.declared.error.ErrorKind.TheVariants.{DivideByZero, NumberRange}
use Rattle.liquid_model.specs.declared.error.ErrorKind.TheVariants.{Float}
use Rattle.liquid_model.specs.Arguments.{Answer}
use Rattle.liquid_filters.specs.Decimals.{is_decimal_text, if_fits}

-- what was computed, or NumberRange
abbrev pub or_range : Option ℤ → Answer
or_range (Some z) = Ok (number z)
or_range None = Err NumberRange

-- a number of 64 bits, or NumberRange
abbrev pub in_range : ℤ → Answer
in_range z = or_range (if_fits z)

-- a whole number or a decimal text
abbrev pub is_numeric : Datum → Bool
is_numeric d = is_some (whole d) || is_decimal_text d

-- why two scalars that haven't both a whole number are refused
abbrev pub unlike : Datum → Datum → ErrorKind
unlike d e = if is_numeric d && is_numeric e then Float else InvalidArgument

abbrev pub is_zero : Option ℤ → Bool
is_zero (Some n) = int_eq n (pos 0)
is_zero None = false

abbrev pub both_or : ErrorKind → Option ℤ → Option ℤ → Result (ℤ × ℤ) ErrorKind
both_or kind (Some a) (Some b) = Ok (a, b)
both_or kind a b = Err kind

-- the steps of a filter with an operand, the first that applies: the input is no scalar; the
-- operand is none; the operand is 0 where it divides; both have a whole number; else the last kind
abbrev pub operands_of : Bool → Bool → Bool → ErrorKind → Option ℤ → Option ℤ →
    Result (ℤ × ℤ) ErrorKind
operands_of divides input_scalar operand_scalar kind a b =
    if not input_scalar then Err InvalidInput
    else (if not operand_scalar then Err InvalidArgument
    else (if divides && is_zero b then Err DivideByZero
    else both_or kind a b))

-- the whole numbers of an input and an operand, or why they are refused
abbrev pub operands : Bool → Datum → Datum → Result (ℤ × ℤ) ErrorKind
operands divides d e = operands_of divides (scalar d) (scalar e) (unlike d e) (whole d) (whole e)

abbrev pub plus : Datum → Datum → Answer
plus d e = operands false d e >>= λ p. in_range (p.0 +ℤ p.1)

abbrev pub minus : Datum → Datum → Answer
minus d e = operands false d e >>= λ p. in_range (p.0 -ℤ p.1)

abbrev pub times : Datum → Datum → Answer
times d e = operands false d e >>= λ p. in_range (p.0 *ℤ p.1)

abbrev pub divided_by : Datum → Datum → Answer
divided_by d e = operands true d e >>= λ p. in_range (int_div p.0 p.1)

abbrev pub modulo : Datum → Datum → Answer
modulo d e = operands true d e >>= λ p. Ok (number (int_rem p.0 p.1))

abbrev pub at_least : Datum → Datum → Answer
at_least d e = operands false d e >>= λ p. Ok (number (int_max p.0 p.1))

abbrev pub at_most : Datum → Datum → Answer
at_most d e = operands false d e >>= λ p. Ok (number (int_min p.0 p.1))

abbrev pub absolute : Option ℤ → Bool → Answer
absolute (Some a) decimal = in_range (pos (unsigned_abs a))
absolute None true = Err Float
absolute None false = Err InvalidInput

abbrev pub abs : Datum → Answer
abs d = if scalar d then absolute (whole d) (is_decimal_text d) else Err InvalidInput

-- a filter of no argument, and one of one; other counts are not accepted
abbrev pub of_none : (Datum → Answer) → Datum → List Datum → Answer
of_none f d es = f d

abbrev pub of_one : (Datum → Datum → Answer) → Datum → List Datum → Answer
of_one f d [] = Err InvalidArgument
of_one f d (e ∷ es) = f d e
