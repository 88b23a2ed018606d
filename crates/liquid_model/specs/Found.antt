-- The datum of what a path has led to.
use Rattle.liquid_model.specs.Data.{Datum, nil, truth, number}
use Rattle.liquid_model.specs.View.{view}
use Rattle.liquid_model.specs.declared.find.Found.{Found}
use Rattle.liquid_model.specs.declared.find.Found.TheVariants.{Held, Integer, Bool, Nil}

abbrev pub found_view : Found → Datum
found_view (Held r) = view r.now
found_view (Integer n) = number n
found_view (Bool b) = truth b
found_view Nil = nil
