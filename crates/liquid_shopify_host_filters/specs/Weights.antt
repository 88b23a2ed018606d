-- The filter `weight_with_unit`.
use Rattle.std.specs.Prelude.{ℕ, ◌/◌, ◌%◌, ◌==◌, ℤ, List, [], ◌++◌, Option, Some, None, Ok, Err}
use Rattle.std.specs.Prelude.{codes, unsigned_abs, if◌then◌else◌}
use Rattle.std.specs.Fmt.{decimal}
use Rattle.liquid_model.specs.Data.{Datum, text}
use Rattle.liquid_model.specs.Texts.{Text}
use Rattle.liquid_model.specs.Whole.{whole}
use Rattle.liquid_model.specs.declared.error.ErrorKind.TheVariants.{InvalidInput}
use Rattle.liquid_model.specs.Arguments.{Answer}
use Rattle.liquid_decimals.specs.Written.{minus_sign}

-- thousandths as decimals, without the zeros at their end but for the first decimal
abbrev pub thousandths : ℕ → Text
thousandths n =
    (decimal (n / 100) ++ (if n % 100 == 0 then [] else decimal (n / 10 % 10)))
    ++ (if n % 10 == 0 then [] else decimal (n % 10))

-- the whole kilograms of a weight of grams
abbrev pub kilograms : ℤ → Text
kilograms z = minus_sign z ++ decimal (unsigned_abs z / 1000)

-- a weight of grams in kilograms
abbrev pub weight : ℤ → Text
weight z = ((kilograms z ++ codes ".") ++ thousandths (unsigned_abs z % 1000)) ++ codes " kg"

abbrev pub weighed : Option ℤ → Answer
weighed (Some z) = Ok (text (weight z))
weighed None = Err InvalidInput

abbrev pub weight_answer : Datum → Answer
weight_answer d = weighed (whole d)
