-- An object as a map.
use Rattle.std.specs.Prelude.{String}
use Rattle.std.specs.BTreeMap.{BTreeMap}
use Rattle.liquid_model.specs.Data.{Datum, Pairs}
use Rattle.liquid_model.specs.Find.{value_at}
use Rattle.liquid_model.specs.View.{pairs_view}
use Rattle.liquid_model.specs.Maps.{Map}
use Rattle.std.specs.declared.alloc.Global.{Global}
use Rattle.liquid_model.specs.declared.value.Value.{Value}

unfoldable pub map_of : Pairs → Map Datum
map_of ps name = value_at name ps

-- an object, as a scope outside every loop is one
abbrev pub Outer : Type 0
Outer = BTreeMap (String Global) Value

abbrev pub held : Outer → Map Datum
held object = map_of (pairs_view object.entries)
