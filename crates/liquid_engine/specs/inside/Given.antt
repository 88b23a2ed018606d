-- The names that a partial is given which runs apart.
use Rattle.liquid_model.specs.Data.{Datum}
use Rattle.liquid_model.specs.Maps.{Map, empty, insert}
use Rattle.liquid_model.specs.View.{view}
use Rattle.liquid_core.specs.Held.{held}
use Rattle.liquid_engine.specs.declared.isolated_scope.Given.{Given}
use Rattle.liquid_engine.specs.declared.isolated_scope.Given.TheVariants.{Names, Borrowed}

abbrev pub given_map : Given → Map Datum
given_map (Names o) = held o
given_map (Borrowed name v) = insert empty name.now (view v.now)
