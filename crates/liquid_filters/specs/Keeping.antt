-- The filters that keep some of a list's items: `compact`, `where`, `map` and `uniq`.
use Rattle.std.specs.Prelude.{Bool, true, false, not, ◌||◌, if◌then◌else◌, List, [], ◌∷◌, ◌++◌}
use Rattle.std.specs.Prelude.{Option, Some, None, Ok, Err, filter, filter_map}
use Rattle.liquid_model.specs.Data.{Datum, nil, array, object, text_of, truthy}
use Rattle.liquid_model.specs.Lists.{list_of}
use Rattle.liquid_model.specs.Order.{same}
use Rattle.liquid_model.specs.Texts.{Text}
use Rattle.liquid_model.specs.declared.error.ErrorKind.TheVariants.{InvalidInput, InvalidArgument}
use Rattle.liquid_model.specs.Arguments.{Answer, first_of}
use Rattle.liquid_filters.specs.Sequences.{list, all_maps, property, of_list}

-- `compact`: the items that aren't nil
abbrev pub is_nil : Datum → Bool
is_nil nil = true
is_nil _ = false

abbrev pub compact : List Datum → List Datum
compact ds = filter (λ d. not (is_nil d)) ds

-- with a property, those that have it and not nil
abbrev pub is_given : Option Datum → Bool
is_given (Some d) = not (is_nil d)
is_given None = false

abbrev pub compact_of : Text → List Datum → List Datum
compact_of name ds = filter (λ d. is_given (property name d)) ds

abbrev pub compact_by : Text → Datum → Answer
compact_by name (array ds) = if all_maps (list_of ds) then Ok (list (compact_of name (list_of ds)))
    else Err InvalidInput
compact_by name _ = Err InvalidInput

abbrev pub compact_answer : Datum → List Datum → Answer
compact_answer d [] = of_list compact d
compact_answer d (name ∷ args) = compact_by (text_of name) d

-- `where`: the maps whose property is there and truthy, or equals the target where one is given
abbrev pub is_wanted : Option Datum → Option Datum → Bool
is_wanted target None = false
is_wanted None (Some d) = truthy d
is_wanted (Some wanted) (Some d) = same d wanted

abbrev pub where_of : Text → Option Datum → List Datum → List Datum
where_of name target ds = filter (λ d. is_wanted target (property name d)) ds

-- a list with an item that is no map gives nil; a map counts as a list of itself
abbrev pub where_by : Text → Option Datum → Datum → Answer
where_by name target (array ds) =
    if all_maps (list_of ds) then Ok (list (where_of name target (list_of ds))) else Ok nil
where_by name target (object ps) = Ok (list (where_of name target (object ps ∷ [])))
where_by name target _ = Err InvalidInput

abbrev pub where_answer : Datum → List Datum → Answer
where_answer d [] = Err InvalidArgument
where_answer d (name ∷ args) = where_by (text_of name) (first_of args) d

-- `map`: the property's values of the maps that have it
abbrev pub mapped_property : Text → List Datum → List Datum
mapped_property name ds = filter_map (property name) ds

abbrev pub map_answer : Datum → List Datum → Answer
map_answer d [] = Err InvalidArgument
map_answer d (name ∷ args) = of_list (mapped_property (text_of name)) d

-- `uniq`: the items that equal no kept one before
abbrev pub has_same : Datum → List Datum → Bool
has_same d [] = false
has_same d (e ∷ es) = same e d || has_same d es

abbrev pub uniq_after : List Datum → List Datum → List Datum
uniq_after kept [] = []
uniq_after kept (d ∷ ds) = if has_same d kept then uniq_after kept ds else d ∷
    uniq_after (kept ++ d ∷ []) ds

abbrev pub uniq : List Datum → List Datum
uniq ds = uniq_after [] ds

abbrev pub uniq_answer : Datum → List Datum → Answer
uniq_answer d args = of_list uniq d
