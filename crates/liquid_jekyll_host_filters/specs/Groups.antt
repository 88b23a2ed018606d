-- The filter `group_by`.
use Rattle.std.specs.Prelude.{Bool, false, ◌||◌, List, [], ◌∷◌, ◌++◌, Ok, Err, codes, filter}
use Rattle.std.specs.Prelude.{length, map, if◌then◌else◌}
use Rattle.liquid_model.specs.Data.{Datum, text, array, object, no_pairs, pair, text_of}
use Rattle.liquid_model.specs.Find.{counted}
use Rattle.liquid_model.specs.Lists.{list_of}
use Rattle.liquid_model.specs.Texts.{Text, same_text}
use Rattle.liquid_model.specs.View.{items_of}
use Rattle.liquid_model.specs.declared.error.ErrorKind.TheVariants.{InvalidArgument, InvalidInput}
use Rattle.liquid_model.specs.Arguments.{Answer}
use Rattle.liquid_jekyll_host_filters.specs.Properties.{dotted_property}

-- the text that an item is grouped by
abbrev pub group_name : Text → Datum → Text
group_name name d = text_of (dotted_property name d)

abbrev pub has_text : Text → List Text → Bool
has_text t [] = false
has_text t (u ∷ us) = same_text t u || has_text t us

-- with the text after them, unless it is among them
abbrev pub noted : Text → List Text → List Text
noted t us = if has_text t us then us else us ++ t ∷ []

-- these, and then the texts of the items, each where it comes first
abbrev pub names_after : Text → List Text → List Datum → List Text
names_after name us [] = us
names_after name us (d ∷ ds) = names_after name (noted (group_name name d) us) ds

-- the items of a text
abbrev pub items_named : Text → List Datum → Text → List Datum
items_named name ds t = filter (λ d. same_text t (group_name name d)) ds

-- a group as a map
abbrev pub group_map : Text → List Datum → Datum
group_map t ds =
    object (pair (codes "items") (array (items_of ds))
    (pair (codes "name") (text t) (pair (codes "size") (counted (length ds)) no_pairs)))

abbrev pub groups : Text → List Datum → List Datum
groups name ds = map (λ t. group_map t (items_named name ds t)) (names_after name [] ds)

-- a map is refused, and any other input that is no list stays
abbrev pub grouped : Datum → Datum → Answer
grouped name (array ds) = Ok (array (items_of (groups (text_of name) (list_of ds))))
grouped name (object ms) = Err InvalidInput
grouped name d = Ok d

abbrev pub group_by_answer : Datum → List Datum → Answer
group_by_answer d [] = Err InvalidArgument
group_by_answer d (name ∷ args) = grouped name d
