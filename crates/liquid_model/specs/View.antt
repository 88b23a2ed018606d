-- The datum that a `Value` stands for.
use Rattle.std.specs.Prelude.{List, [], ◌∷◌, map, String, string_bytes}
use Rattle.std.specs.declared.alloc.Global.{Global}
use Rattle.liquid_model.specs.Data.{Datum, nil, truth, number, text, array, object, Items, no_items}
use Rattle.liquid_model.specs.Data.{item, Pairs, no_pairs, pair}
use Rattle.liquid_model.specs.declared.value.Value.{Value, fold-Value}
use Rattle.liquid_model.specs.declared.value.Value.TheOpen.{Value-F}

abbrev pub items_of : List Datum → Items
items_of [] = no_items
items_of (d ∷ ds) = item d (items_of ds)

abbrev pub pairs_of : List (String Global × Datum) → Pairs
pairs_of [] = no_pairs
pairs_of (m ∷ ms) = pair (string_bytes m.0) m.1 (pairs_of ms)

-- one level, with each value inside already seen as its datum
abbrev pub view_step : Value-F Datum → Datum
view_step Value-F.Nil = nil
view_step (Value-F.Bool b) = truth b
view_step (Value-F.Integer z) = number z
view_step (Value-F.Text s) = text (string_bytes s)
view_step (Value-F.Array v) = array (items_of v.items)
view_step (Value-F.Object m) = object (pairs_of m.entries)

abbrev pub view : Value → Datum
view = fold-Value Datum view_step

abbrev pub items_view : List Value → Items
items_view vs = items_of (map view vs)

abbrev pub pairs_view : List (String Global × Value) → Pairs
pairs_view ms = pairs_of (map (λ m. (m.0, view m.1)) ms)
