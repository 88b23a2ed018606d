-- Items beside what they are sorted by.
use Rattle.std.specs.Prelude.{Bool, option_map}
use Rattle.std.specs.Ordering.{is_lt}
use Rattle.liquid_model.specs.Cow.{cow_view}
use Rattle.liquid_model.specs.Data.{Datum}
use Rattle.liquid_model.specs.View.{view}
use Rattle.liquid_filters.specs.Sorting.{Key, key_order}
use Rattle.liquid_filters.specs.declared.stdlib.filters.array.sort.Keyed.{Keyed}

abbrev pub key_view : Keyed → Key
key_view k = option_map cow_view k.key

abbrev pub keyed_view : Keyed → Key × Datum
keyed_view k = (key_view k, view k.item.now)

abbrev pub keyed_below : Keyed → Keyed → Bool
keyed_below x y = is_lt (key_order (key_view x) (key_view y))
