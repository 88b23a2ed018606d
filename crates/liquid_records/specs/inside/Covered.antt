-- What stood under names that other values stand under now.
use Rattle.std.specs.Prelude.{⊤, List, [], ◌∷◌, map, Option, IsSome, option_map, String}
use Rattle.std.specs.Prelude.{string_bytes}
use Rattle.std.specs.declared.alloc.Global.{Global}
use Rattle.liquid_model.specs.Data.{Datum}
use Rattle.liquid_model.specs.Maps.{Map}
use Rattle.liquid_model.specs.Texts.{Text}
use Rattle.liquid_model.specs.View.{view}
use Rattle.liquid_model.specs.declared.value.Value.{Value}
use Rattle.liquid_core.specs.DataChanges.{with_value}

-- each name, in turn, with the value that it had
abbrev pub Covered : Type 0
Covered = List (Text × Option Datum)

-- the map once what was covered stands there again, the last of it first
abbrev pub uncovered : Covered → Map Datum → Map Datum
uncovered [] m = m
uncovered (c ∷ cs) m = with_value (uncovered cs m) c.0 c.1

abbrev pub covered_view : List (String Global × Option Value) → Covered
covered_view cs = map (λ c. (string_bytes c.0, option_map view c.1)) cs

-- something stands at each name when what was covered is put back there, the last of it first
abbrev pub AreThere : Covered → Map Datum → Type 0
AreThere [] m = ⊤
AreThere (c ∷ cs) m = AreThere cs m × IsSome (uncovered cs m c.0)
