-- Laws of decimals.
use Rattle.std.specs.Prelude.{◌≡◌, ◌<◌, ◌≤◌, ℕ, ◌+◌, ◌*◌, ◌^◌, IsTrue, Some, Ok, unsigned_abs}
use Rattle.liquid_model.specs.Data.{text}
use Rattle.liquid_model.specs.Whole.{fits}
use Rattle.liquid_decimals.specs.Decimals.{Decimal, most_decimal_places, quotient_size}
use Rattle.liquid_decimals.specs.Readings.{decimal_in}
use Rattle.liquid_decimals.specs.Written.{decimal_text}

-- the text of a decimal is read as the decimal again, with its places
abbrev pub TextIsReadBack : Type 0
TextIsReadBack =
    (d : Decimal) → IsTrue (fits d.units) → d.places ≤ most_decimal_places
    → decimal_in (text (decimal_text d)) ≡ Ok (Some d)

-- the sizes of a dividend with p places and of its divisor, over the same power of ten
abbrev pub dividend_size : ℕ → Decimal → Decimal → ℕ
dividend_size p a b = unsigned_abs a.units * 10 ^ (b.places + p)

abbrev pub divisor_size : Decimal → Decimal → ℕ
divisor_size a b = unsigned_abs b.units * 10 ^ a.places

-- no whole number is nearer to the quotient, and of two that are as near it is the greater
abbrev pub QuotientIsNearest : Type 0
QuotientIsNearest =
    (p : ℕ) (a b : Decimal) → 0 < unsigned_abs b.units
    → (2 * (quotient_size p a b * divisor_size a b) ≤
    2 * dividend_size p a b + divisor_size a b)
    × (2 * dividend_size p a b <
    2 * (quotient_size p a b * divisor_size a b) + divisor_size a b)
