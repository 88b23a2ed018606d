-- Stable sorts as functions, and the filters `sort` and `sort_natural`.
use Rattle.std.specs.Prelude.{Bool, List, [], ◌∷◌, map, if◌then◌else◌, Option, Some, None}
use Rattle.std.specs.Prelude.{option_map, option_and_then, Ok, Err}
use Rattle.std.specs.Char.{to_ascii_lowercase}
use Rattle.std.specs.Ordering.{is_lt}
use Rattle.std.specs.declared.cmp.Ordering.{Ordering}
use Rattle.std.specs.declared.cmp.Ordering.TheVariants.{Less, Equal, Greater}
use Rattle.liquid_model.specs.Data.{Datum, nil, text, text_of}
use Rattle.liquid_model.specs.Order.{order}
use Rattle.liquid_model.specs.Texts.{Text}
use Rattle.liquid_model.specs.declared.error.ErrorKind.TheVariants.{InvalidInput}
use Rattle.liquid_model.specs.Arguments.{Answer}
use Rattle.liquid_filters.specs.Sequences.{list, sequence, all_maps, property}

-- an item put before the first that is not below it
abbrev pub insert_in_order : {X : Type 0} → (X → X → Bool) → X → List X → List X
insert_in_order below x [] = x ∷ []
insert_in_order below x (y ∷ ys) = if below y x then y ∷ insert_in_order below x ys else x ∷ y ∷ ys

abbrev pub sorted : {X : Type 0} → (X → X → Bool) → List X → List X
sorted below [] = []
sorted below (x ∷ xs) = insert_in_order below x (sorted below xs)

-- what an item is sorted by: a value, or none for nil
abbrev pub Key : Type 0
Key = Option Datum

-- keys in the total order of values, none last
abbrev pub key_order : Key → Key → Ordering
key_order (Some d) (Some e) = order d e
key_order (Some d) None = Less
key_order None (Some e) = Greater
key_order None None = Equal

abbrev pub sort_by : (Datum → Key) → List Datum → List Datum
sort_by key ds = sorted (λ d e. is_lt (key_order (key d) (key e))) ds

abbrev pub sort_key : Datum → Key
sort_key nil = None
sort_key d = Some d

-- an item is sorted by itself, or by the value at a property; a missing one counts as nil
abbrev pub key_of : Option Text → Datum → Key
key_of None d = sort_key d
key_of (Some name) d = option_and_then sort_key (property name d)

abbrev pub lower_case : Text → Text
lower_case s = map to_ascii_lowercase s

-- the key's text in lower case: texts stand in byte order
abbrev pub natural_key_of : Option Text → Datum → Key
natural_key_of name d = option_map (λ e. text (lower_case (text_of e))) (key_of name d)

-- of a sequence; with a property all its items must be maps
abbrev pub sort_named : (Option Text → Datum → Key) → Text → Datum → Answer
sort_named key name d =
    if all_maps (sequence d) then Ok (list (sort_by (key (Some name)) (sequence d))) else Err
    InvalidInput

abbrev pub sort_answer : Datum → List Datum → Answer
sort_answer d [] = Ok (list (sort_by (key_of None) (sequence d)))
sort_answer d (name ∷ args) = sort_named key_of (text_of name) d

abbrev pub sort_natural_answer : Datum → List Datum → Answer
sort_natural_answer d [] = Ok (list (sort_by (natural_key_of None) (sequence d)))
sort_natural_answer d (name ∷ args) = sort_named natural_key_of (text_of name) d
