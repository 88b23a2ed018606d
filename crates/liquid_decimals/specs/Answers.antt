-- What each filter answers.
use Rattle.std.specs.Prelude.{List, ◌∷◌, drop, Result, Ok, Err, codes}
use Rattle.liquid_model.specs.Data.{Datum, number, text}
use Rattle.liquid_model.specs.Fallible.{◌>>=◌}
use Rattle.liquid_model.specs.declared.error.ErrorKind.{ErrorKind}
use Rattle.liquid_model.specs.declared.error.ErrorKind.TheVariants.{InvalidArgument, InvalidInput}
use Rattle.liquid_model.specs.Arguments.{Answer, text_or}
use Rattle.liquid_decimals.specs.Decimals.{Decimal, operated, compared, decimal_divided}
use Rattle.liquid_decimals.specs.Decimals.{decimal_rounded}
use Rattle.liquid_decimals.specs.Readings.{decimal_or, places_or_fault}
use Rattle.liquid_decimals.specs.Sums.{sum_of}
use Rattle.liquid_decimals.specs.Written.{decimal_text, grouped_text}
use Rattle.liquid_decimals.specs.declared.arithmetic.Operation.{Operation}
use Rattle.liquid_decimals.specs.declared.arithmetic.Operation.TheVariants as o
use Rattle.liquid_decimals.specs.declared.filter.DecimalFilter.{DecimalFilter}
use Rattle.liquid_decimals.specs.declared.filter.DecimalFilter.TheVariants as d

-- a decimal is answered as its text
abbrev pub as_decimal_text : Result Decimal ErrorKind → Answer
as_decimal_text r = r >>= (λ d. Ok (text (decimal_text d)))

-- the input is read before the arguments, which are read in their order
abbrev pub of_two : Operation → Datum → Datum → Answer
of_two f d e = do
  a ← decimal_or InvalidInput d
  b ← decimal_or InvalidArgument e
  as_decimal_text (operated f a b)

abbrev pub compare_answer : Datum → Datum → Answer
compare_answer d e = do
  a ← decimal_or InvalidInput d
  b ← decimal_or InvalidArgument e
  Ok (number (compared a b))

abbrev pub divided_answer : Datum → Datum → Datum → Answer
divided_answer d e places = do
  a ← decimal_or InvalidInput d
  b ← decimal_or InvalidArgument e
  p ← places_or_fault places
  as_decimal_text (decimal_divided p a b)

abbrev pub round_answer : Datum → Datum → Answer
round_answer d places = do
  a ← decimal_or InvalidInput d
  p ← places_or_fault places
  as_decimal_text (decimal_rounded p a)

-- a comma between the thousands and a point, where no others are given
abbrev pub format_answer : Datum → Datum → List Datum → Answer
format_answer d places args = do
  a ← decimal_or InvalidInput d
  p ← places_or_fault places
  r ← decimal_rounded p a
  Ok (text (grouped_text (text_or (codes ",") args) (text_or (codes ".") (drop 1 args)) r))

abbrev pub decimal_answer : DecimalFilter → Datum → List Datum → Answer
decimal_answer d.AtLeast x (e ∷ es) = of_two o.AtLeast x e
decimal_answer d.AtMost x (e ∷ es) = of_two o.AtMost x e
decimal_answer d.Compare x (e ∷ es) = compare_answer x e
decimal_answer d.DividedBy x (e ∷ p ∷ es) = divided_answer x e p
decimal_answer d.Format x (p ∷ es) = format_answer x p es
decimal_answer d.Minus x (e ∷ es) = of_two o.Minus x e
decimal_answer d.Plus x (e ∷ es) = of_two o.Plus x e
decimal_answer d.Round x (p ∷ es) = round_answer x p
decimal_answer d.Sum x es = as_decimal_text (sum_of x es)
decimal_answer d.Times x (e ∷ es) = of_two o.Times x e
decimal_answer f x es = Err InvalidArgument
