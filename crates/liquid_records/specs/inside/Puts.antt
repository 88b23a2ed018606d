-- The names of a merge in the map that holds them.
use Rattle.std.specs.Prelude.{ℕ, String}
use Rattle.std.specs.BTreeMap.{BTreeMap, get_by_text}
use Rattle.std.specs.declared.alloc.Global.{Global}
use Rattle.liquid_records.specs.Steps.{EarlierNames}

abbrev pub map_names : BTreeMap (String Global) ℕ → EarlierNames
map_names m = λ name. get_by_text m name
