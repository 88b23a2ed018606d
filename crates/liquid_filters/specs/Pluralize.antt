-- The filter `pluralize`.
use Rattle.std.specs.Prelude.{ℤ, pos, List, ◌∷◌, Option, Some, None, Ok, Err, if◌then◌else◌}
use Rattle.std.specs.Ordering.{int_eq}
use Rattle.liquid_model.specs.Data.{Datum}
use Rattle.liquid_model.specs.Whole.{whole}
use Rattle.liquid_model.specs.declared.error.ErrorKind.TheVariants.{InvalidInput, InvalidArgument}
use Rattle.liquid_model.specs.Arguments.{Answer}

-- the singular for 1, the plural for other whole numbers
abbrev pub numbered : Option ℤ → Datum → Datum → Answer
numbered (Some z) singular plural = Ok (if int_eq z (pos 1) then singular else plural)
numbered None singular plural = Err InvalidInput

abbrev pub pluralize_answer : Datum → List Datum → Answer
pluralize_answer d (singular ∷ plural ∷ args) = numbered (whole d) singular plural
pluralize_answer d args = Err InvalidArgument
