-- Names of entries under which two data differ.
use Rattle.std.specs.Prelude.{List, filter, map, String, string_bytes}
use Rattle.std.specs.declared.alloc.Global.{Global}
use Rattle.liquid_model.specs.Texts.{Text}
use Rattle.liquid_model.specs.Data.{Datum}
use Rattle.liquid_model.specs.Maps.{Map}
use Rattle.liquid_site.specs.Steps.{differs}

abbrev pub name_texts : List (String Global) → List Text
name_texts names = map string_bytes names

abbrev pub differing : Map Datum → Map Datum → List (String Global) → List Text
differing old new names = filter (differs old new) (name_texts names)
