-- The values of a call's arguments, as they are held for the filter.
use Rattle.std.specs.Prelude.{List, [], ◌∷◌, map}
use Rattle.liquid_model.specs.Cow.{cow_view}
use Rattle.liquid_model.specs.Data.{Datum}
use Rattle.liquid_model.specs.View.{view}
use Rattle.liquid_evaluation.specs.declared.arguments.Arguments.{Arguments}
use Rattle.liquid_evaluation.specs.declared.arguments.Arguments.TheVariants.{One, Many}

abbrev pub arguments_view : Arguments → List Datum
arguments_view (One value) = cow_view value ∷ []
arguments_view (Many values) = map view values.items
