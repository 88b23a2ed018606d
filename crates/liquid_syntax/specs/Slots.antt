-- Places by name, of which some hold nothing, as lists of entries.
use Rattle.std.specs.Prelude.{cond, List, [], ◌∷◌, Option, Some, None, is_some}
use Rattle.liquid_model.specs.Maps.{listed}
use Rattle.liquid_model.specs.Texts.{Text}
use Rattle.liquid_language.specs.Entries.{put_entry, without}

-- entries after a slot, with what it holds
abbrev pub with_held : {Y : Type 0} → Text → Option Y → List (Text × Y) → List (Text × Y)
with_held name None es = es
with_held name (Some y) es = (name, y) ∷ es

-- what the places hold
abbrev pub filled : {Y : Type 0} → List (Text × Option Y) → List (Text × Y)
filled [] = []
filled (e ∷ es) = with_held e.0 e.1 (filled es)

-- the places, with one that holds nothing at a name that has none
abbrev pub reserved : {Y : Type 0} → Text → List (Text × Option Y) → List (Text × Option Y)
reserved name es = cond (is_some (listed es name)) es (put_entry name None es)

-- what is held, after a slot was given this
abbrev pub exchanged : {Y : Type 0} → Text → Option Y → List (Text × Y) → List (Text × Y)
exchanged name None es = without name es
exchanged name (Some y) es = put_entry name y es
