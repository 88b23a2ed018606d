-- What an item has along a property as `a.b`.
use Rattle.std.specs.Prelude.{◌==◌, [], ◌∷◌, ◌++◌, Option, if◌then◌else◌}
use Rattle.std.specs.Option.{option_map_or}
use Rattle.liquid_model.specs.Data.{Datum, nil, object}
use Rattle.liquid_model.specs.Find.{value_at}
use Rattle.liquid_model.specs.Texts.{Text}

-- the value, or nil
abbrev pub found_or_nil : Option Datum → Datum
found_or_nil o = option_map_or (λ d. d) o nil

-- what a map has at the name; nil of anything else
abbrev pub map_member : Text → Datum → Datum
map_member name (object ms) = found_or_nil (value_at name ms)
map_member name d = nil

-- from name to name, where this one has begun
abbrev pub along : Text → Text → Datum → Datum
along name [] d = map_member name d
along name (b ∷ s) d = if b == 46 then along [] s (map_member name d) else along (name
    ++ b ∷ []) s d

abbrev pub dotted_property : Text → Datum → Datum
dotted_property = along []
