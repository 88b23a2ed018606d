-- The filter `default`. A missing argument, which no call can make, counts as nil.
use Rattle.std.specs.Prelude.{List, [], ◌∷◌, Ok, if◌then◌else◌}
use Rattle.liquid_model.specs.Data.{Datum, nil, is_default_datum}
use Rattle.liquid_model.specs.Arguments.{Answer}

abbrev pub first_item_or_nil : List Datum → Datum
first_item_or_nil [] = nil
first_item_or_nil (d ∷ ds) = d

-- the argument in place of nil, false and the empty text, list and map
abbrev pub default_answer : Datum → List Datum → Answer
default_answer d args = Ok (if is_default_datum d then first_item_or_nil args else d)
