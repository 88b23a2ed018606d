-- What filters read their arguments as.
use Rattle.std.specs.Prelude.{ℤ, List, [], ◌∷◌, Option, Some, None, Result, Ok, Err}
use Rattle.liquid_model.specs.Data.{Datum, text_of}
use Rattle.liquid_model.specs.Texts.{Text}
use Rattle.liquid_model.specs.Whole.{whole}
use Rattle.liquid_model.specs.declared.error.ErrorKind.{ErrorKind}
use Rattle.liquid_model.specs.declared.error.ErrorKind.TheVariants.{InvalidArgument}

-- what a filter answers: a value, or the kind of a fault
abbrev pub Answer : Type 0
Answer = Result Datum ErrorKind

-- a text argument is the text of whatever value is given; where none is, the text that the filter
-- takes in its place
abbrev pub text_or : Text → List Datum → Text
text_or missing [] = missing
text_or missing (d ∷ ds) = text_of d

-- an argument of any kind, where one is given
abbrev pub first_of : List Datum → Option Datum
first_of [] = None
first_of (d ∷ ds) = Some d

abbrev pub number_or_fault : Option ℤ → Result ℤ ErrorKind
number_or_fault (Some z) = Ok z
number_or_fault None = Err InvalidArgument

-- a whole-number argument is the whole number of the value
abbrev pub whole_or_fault : Datum → Result ℤ ErrorKind
whole_or_fault d = number_or_fault (whole d)
