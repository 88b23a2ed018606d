-- Arguments that may be missing.
use Rattle.std.specs.Prelude.{ℤ, List, [], ◌∷◌, Result, Ok}
use Rattle.liquid_model.specs.Data.{Datum}
use Rattle.liquid_model.specs.declared.error.ErrorKind.{ErrorKind}
use Rattle.liquid_model.specs.Arguments.{whole_or_fault}

-- a whole-number argument, or where none is given the number that the filter takes in its place
abbrev pub whole_or : ℤ → List Datum → Result ℤ ErrorKind
whole_or missing [] = Ok missing
whole_or missing (d ∷ ds) = whole_or_fault d
