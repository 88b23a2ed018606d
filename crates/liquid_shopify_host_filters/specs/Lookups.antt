-- The filters that look in lists of maps: `reject`, `find`, `find_index` and `has`.
-- The first argument is a property's name, and the second the target, if there is one.
use Rattle.std.specs.Prelude.{ℕ, suc, Bool, true, false, not, if◌then◌else◌, ◌||◌, List, [], ◌∷◌}
use Rattle.std.specs.Prelude.{Option, Some, None, Ok, Err, filter}
use Rattle.liquid_model.specs.Data.{Datum, nil, truth, text_of}
use Rattle.liquid_model.specs.Find.{counted}
use Rattle.liquid_model.specs.Texts.{Text}
use Rattle.liquid_model.specs.declared.error.ErrorKind.TheVariants.{InvalidArgument}
use Rattle.liquid_model.specs.Arguments.{Answer, first_of}
use Rattle.liquid_filters.specs.Keeping.{is_wanted}
use Rattle.liquid_filters.specs.Sequences.{all_maps, list, property, sequence}

-- nil is no target
abbrev pub target_of : Option Datum → Option Datum
target_of (Some nil) = None
target_of t = t

abbrev pub wants : Text → Option Datum → Datum → Bool
wants name target d = is_wanted target (property name d)

abbrev pub rejected : Text → Option Datum → List Datum → List Datum
rejected name target ds = filter (λ d. not (wants name target d)) ds

abbrev pub first_match : Text → Option Datum → List Datum → Datum
first_match name target [] = nil
first_match name target (d ∷ ds) = if wants name target d then d else first_match name target ds

-- the place of the first one, where k items stand before
abbrev pub place_of_wanted : Text → Option Datum → ℕ → List Datum → Datum
place_of_wanted name target k [] = nil
place_of_wanted name target k (d ∷ ds) =
    if wants name target d then counted k else place_of_wanted name target (suc k) ds

abbrev pub has_wanted : Text → Option Datum → List Datum → Bool
has_wanted name target [] = false
has_wanted name target (d ∷ ds) = wants name target d || has_wanted name target ds

-- a list with an item that is no map gives nil
-- Nil counts as an empty list, and any other value as a list of itself.
abbrev pub among : (Text → Option Datum → List Datum → Datum) → Datum → List Datum → Answer
among f d [] = Err InvalidArgument
among f d (name ∷ args) =
    if all_maps (sequence d) then Ok (f (text_of name) (target_of (first_of args)) (sequence d))
    else Ok nil

-- `reject`
abbrev pub reject_answer : Datum → List Datum → Answer
reject_answer d args = among (λ name target ds. list (rejected name target ds)) d args

-- `find`
abbrev pub shopify_find_answer : Datum → List Datum → Answer
shopify_find_answer d args = among first_match d args

-- `find_index`
abbrev pub find_index_answer : Datum → List Datum → Answer
find_index_answer d args = among (λ name target ds. place_of_wanted name target 0 ds) d args

-- `has`
abbrev pub has_answer : Datum → List Datum → Answer
has_answer d args = among (λ name target ds. truth (has_wanted name target ds)) d args
