-- The datum of a value that is owned or borrowed.
use Rattle.std.specs.Prelude.{Bool, true, false}
use Rattle.liquid_model.specs.Data.{Datum}
use Rattle.liquid_model.specs.View.{view}
use Rattle.liquid_model.specs.declared.cow.ValueCow.{ValueCow}
use Rattle.liquid_model.specs.declared.cow.ValueCow.TheVariants.{Owned, Borrowed}

abbrev pub cow_view : ValueCow → Datum
cow_view (Owned v) = view v
cow_view (Borrowed r) = view r.now

abbrev pub is_owned : ValueCow → Bool
is_owned (Owned v) = true
is_owned (Borrowed r) = false
