-- Exact decimals, and what is computed from them.
--     units_at p d      the units of a decimal that is written with p places, no fewer than it has
--     quotient p a b    a over b with p places, from a half of the last place on away from zero
use Rattle.std.specs.Prelude.{ℕ, ◌+◌, ◌-◌, ◌*◌, ◌^◌, nat_le, max, ℤ, pos, negsuc, ◌+ℤ◌, ◌-ℤ◌, ◌*ℤ◌}
use Rattle.std.specs.Prelude.{unsigned_abs, int_lt, Bool, ◌&&◌, not, Result, Ok, Err}
use Rattle.std.specs.Prelude.{if◌then◌else◌}
use Rattle.std.specs.Ordering.{int_eq}
use Rattle.liquid_model.specs.Whole.{fits}
use Rattle.liquid_model.specs.declared.error.ErrorKind.{ErrorKind}
use Rattle.liquid_model.specs.declared.error.ErrorKind.TheVariants.{DivideByZero, NumberRange}
use Rattle.liquid_filters.specs.Rounding.{nearest, signed}
use Rattle.liquid_decimals.specs.declared.arithmetic.Operation.{Operation}
use Rattle.liquid_decimals.specs.declared.arithmetic.Operation.TheVariants.{Plus, Minus, Times}
use Rattle.liquid_decimals.specs.declared.arithmetic.Operation.TheVariants.{AtLeast, AtMost}
use Rattle.liquid_decimals.specs.declared.decimal.Decimal as code

-- a number of units over ten to the power of the places: 19.99 has 1999 units and 2 places
pub record Decimal : Type 0 where
  pub units : ℤ
  pub places : ℕ

abbrev pub decimal_view : code.Decimal → Decimal
decimal_view d = record { units = d.units; places = d.places }

abbrev pub most_decimal_places : ℕ
most_decimal_places = 18

-- the units of each decimal are within 64 bits, and its places at most 18
abbrev pub bounded : ℤ → ℕ → Result Decimal ErrorKind
bounded u p =
    if fits u && nat_le p most_decimal_places then Ok (record { units = u; places = p })
    else Err NumberRange

abbrev pub units_at : ℕ → Decimal → ℤ
units_at p d = d.units *ℤ pos (10 ^ (p - d.places))

abbrev pub places_of_both : Decimal → Decimal → ℕ
places_of_both a b = max a.places b.places

-- both with the same places
abbrev pub left_units : Decimal → Decimal → ℤ
left_units a b = units_at (places_of_both a b) a

abbrev pub right_units : Decimal → Decimal → ℤ
right_units a b = units_at (places_of_both a b) b

abbrev pub is_less : Decimal → Decimal → Bool
is_less a b = int_lt (left_units a b) (right_units a b)

-- a sum and a difference have the places of the operand with more, a product those of both
abbrev pub operated : Operation → Decimal → Decimal → Result Decimal ErrorKind
operated Plus a b = bounded (left_units a b +ℤ right_units a b) (places_of_both a b)
operated Minus a b = bounded (left_units a b -ℤ right_units a b) (places_of_both a b)
operated Times a b = bounded (a.units *ℤ b.units) (a.places + b.places)
operated AtLeast a b = Ok (if is_less a b then b else a)
operated AtMost a b = Ok (if int_lt (right_units a b) (left_units a b) then b else a)

-- -1, 0 or 1: less, the same, or more
abbrev pub compared : Decimal → Decimal → ℤ
compared a b =
    if is_less a b then negsuc 0
    else (if int_lt (right_units a b) (left_units a b) then pos 1 else pos 0)

abbrev pub is_below_zero : ℤ → Bool
is_below_zero u = int_lt u (pos 0)

abbrev pub have_unlike_signs : ℤ → ℤ → Bool
have_unlike_signs u v = if is_below_zero u then not (is_below_zero v) else is_below_zero v

-- the size of u units of places p over v of places q, with r places: what both have in common of
-- the powers of ten is left out
abbrev pub quotient_size : ℕ → Decimal → Decimal → ℕ
quotient_size p a b =
    nearest (unsigned_abs a.units * 10 ^ (b.places + p - a.places))
    (unsigned_abs b.units * 10 ^ (a.places - (b.places + p)))

abbrev pub quotient : ℕ → Decimal → Decimal → Result Decimal ErrorKind
quotient p a b = bounded (signed (have_unlike_signs a.units b.units) (quotient_size p a b)) p

abbrev pub decimal_divided : ℕ → Decimal → Decimal → Result Decimal ErrorKind
decimal_divided p a b = if int_eq b.units (pos 0) then Err DivideByZero else quotient p a b

abbrev pub one : Decimal
one = record { units = pos 1; places = 0 }

-- with so many places
abbrev pub decimal_rounded : ℕ → Decimal → Result Decimal ErrorKind
decimal_rounded p a = decimal_divided p a one
