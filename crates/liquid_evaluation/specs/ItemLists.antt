-- The items of a loop, as a list.
use Rattle.std.specs.Prelude.{List, map}
use Rattle.liquid_model.specs.Data.{Datum}
use Rattle.liquid_model.specs.View.{view}
use Rattle.liquid_core.specs.declared.frame.Items.{Items}
use Rattle.liquid_core.specs.declared.frame.Items.TheVariants.{Borrowed, Owned, Numbers}
use Rattle.liquid_evaluation.specs.Evaluation.{count_to, numbers_from}

abbrev pub all_items : Items → List Datum
all_items (Borrowed r) = map view r.now
all_items (Owned v) = map view v.items
all_items (Numbers a b) = numbers_from a (count_to a b)
