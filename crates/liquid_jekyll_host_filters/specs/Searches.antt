-- The filters that search a list by a property of its items.
use Rattle.std.specs.Prelude.{Bool, true, false, not, ◌||◌, ◌&&◌, if◌then◌else◌, List, [], ◌∷◌}
use Rattle.std.specs.Prelude.{Option, Some, None, Ok, Err, filter}
use Rattle.liquid_model.specs.Data.{Datum, nil, truth, number, text, array, object, Pairs, no_pairs}
use Rattle.liquid_model.specs.Data.{pair, text_of, truthy}
use Rattle.liquid_model.specs.Lists.{list_of}
use Rattle.liquid_model.specs.Texts.{Text, same_text}
use Rattle.liquid_model.specs.View.{items_of}
use Rattle.liquid_model.specs.declared.error.ErrorKind.TheVariants.{InvalidArgument}
use Rattle.liquid_model.specs.Arguments.{Answer}
use Rattle.liquid_jekyll_host_filters.specs.Properties.{dotted_property}
use Rattle.liquid_jekyll_host_filters.specs.declared.searches.Which.{Which}
use Rattle.liquid_jekyll_host_filters.specs.declared.searches.Which.TheVariants.{All, First}

-- a truth value, a number or a text, of this text
abbrev pub item_says : Text → Datum → Bool
item_says wanted (truth b) = same_text (text_of (truth b)) wanted
item_says wanted (number z) = same_text (text_of (number z)) wanted
item_says wanted (text s) = same_text s wanted
item_says wanted d = false

abbrev pub any_says : Text → List Datum → Bool
any_says wanted [] = false
any_says wanted (d ∷ ds) = item_says wanted d || any_says wanted ds

-- the same, or a list with such an item
abbrev pub value_says : Text → Datum → Bool
value_says wanted (array ds) = any_says wanted (list_of ds)
value_says wanted d = item_says wanted d

abbrev pub is_nil_datum : Datum → Bool
is_nil_datum nil = true
is_nil_datum d = false

-- without a text nil is wanted
abbrev pub meets : Option Text → Datum → Bool
meets None d = is_nil_datum d
meets (Some wanted) d = value_says wanted d

abbrev pub is_search_match : Text → Option Text → Datum → Bool
is_search_match name target d = meets target (dotted_property name d)

abbrev pub search_matches : Text → Option Text → List Datum → List Datum
search_matches name target ds = filter (is_search_match name target) ds

abbrev pub first_wanted : Text → Option Text → List Datum → Datum
first_wanted name target [] = nil
first_wanted name target (d ∷ ds) =
    if is_search_match name target d then d else first_wanted name target ds

-- all wanted items, or the first of them
abbrev pub search_result : Which → Text → Option Text → List Datum → Datum
search_result All name target ds = array (items_of (search_matches name target ds))
search_result First name target ds = first_wanted name target ds

-- the values of a map
abbrev pub values : Pairs → List Datum
values no_pairs = []
values (pair k d ms) = d ∷ values ms

-- of the items of a list, or of the values of a map; any other input stays
abbrev pub searched : Which → Text → Option Text → Datum → Answer
searched which name target (array ds) = Ok (search_result which name target (list_of ds))
searched which name target (object ms) = Ok (search_result which name target (values ms))
searched which name target d = Ok d

-- a list or a map is no target
abbrev pub is_target : Datum → Bool
is_target (array ds) = false
is_target (object ms) = false
is_target d = true

abbrev pub target_text : Datum → Option Text
target_text nil = None
target_text d = Some (text_of d)

abbrev pub is_search : Datum → Datum → Bool
is_search name target = truthy name && is_target target

abbrev pub jekyll_where_by : Which → Datum → Datum → Datum → Answer
jekyll_where_by which name target d = if is_search name target then searched which (text_of name)
    (target_text target) d else Ok d

-- `where`
abbrev pub jekyll_where_answer : Datum → List Datum → Answer
jekyll_where_answer d (name ∷ target ∷ args) = jekyll_where_by All name target d
jekyll_where_answer d args = Err InvalidArgument

-- `find`
abbrev pub find_answer : Datum → List Datum → Answer
find_answer d (name ∷ target ∷ args) = jekyll_where_by First name target d
find_answer d args = Err InvalidArgument
