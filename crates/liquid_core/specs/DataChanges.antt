-- Data after a change of one value.
use Rattle.std.specs.Prelude.{Option, bytes_eq}
use Rattle.std.specs.Map.{update}
use Rattle.liquid_model.specs.Data.{Datum}
use Rattle.liquid_model.specs.Maps.{Map}
use Rattle.liquid_model.specs.Texts.{Text}

-- the data with a value at a name, or with none
unfoldable pub with_value : Map Datum → Text → Option Datum → Map Datum
with_value «data» name d = update bytes_eq «data» name d
