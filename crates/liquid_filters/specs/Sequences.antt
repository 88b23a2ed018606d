-- Values as lists of items, and the properties of maps.
use Rattle.std.specs.Prelude.{Bool, true, false, List, [], ◌∷◌, Option, None, Ok, Err}
use Rattle.std.specs.List.{list_all}
use Rattle.liquid_model.specs.Data.{Datum, nil, array, object}
use Rattle.liquid_model.specs.Find.{value_at}
use Rattle.liquid_model.specs.Lists.{list_of}
use Rattle.liquid_model.specs.Texts.{Text}
use Rattle.liquid_model.specs.View.{items_of}
use Rattle.liquid_model.specs.declared.error.ErrorKind.TheVariants.{InvalidInput}
use Rattle.liquid_model.specs.Arguments.{Answer}

-- a list of these items
abbrev pub list : List Datum → Datum
list ds = array (items_of ds)

-- a list's items, nothing for nil, else the value alone
abbrev pub sequence : Datum → List Datum
sequence (array ds) = list_of ds
sequence nil = []
sequence d = d ∷ []

abbrev pub is_map : Datum → Bool
is_map (object ps) = true
is_map _ = false

abbrev pub all_maps : List Datum → Bool
all_maps ds = list_all is_map ds

-- the value of a map's property
abbrev pub property : Text → Datum → Option Datum
property name (object ps) = value_at name ps
property name _ = None

-- of a list, the list that f makes of its items; another input is refused
abbrev pub of_list : (List Datum → List Datum) → Datum → Answer
of_list f (array ds) = Ok (list (f (list_of ds)))
of_list f _ = Err InvalidInput
