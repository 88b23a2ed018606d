-- What is proved of Jekyll's filters beyond their answers.
use Rattle.std.specs.Prelude.{◌≡◌, true, List, [], ◌∷◌, ◌++◌, flat_map, if◌then◌else◌}
use Rattle.std.specs.List.{IsDistinct}
use Rattle.std.specs.List.Sorted.{IsPermutation}
use Rattle.liquid_model.specs.Data.{Datum}
use Rattle.liquid_model.specs.Fallible.{◌>>=◌}
use Rattle.liquid_model.specs.Texts.{Text, same_text}
use Rattle.liquid_jekyll_host_filters.specs.Groups.{group_name, items_named, names_after, noted}
use Rattle.liquid_jekyll_host_filters.specs.Urls.{absolute_url_answer, is_absolute}
use Rattle.liquid_jekyll_host_filters.specs.Urls.{relative_url_answer}
use Rattle.liquid_jekyll_host_filters.specs.Words.{normalized, words}

-- without a base path `relative_url` changes nothing a second time
abbrev pub RelativeUrlTwiceIsOnce : Type 0
RelativeUrlTwiceIsOnce =
    (d : Datum) → relative_url_answer [] d [] >>= (λ e. relative_url_answer [] e []) ≡
    relative_url_answer [] d []

-- where the address begins with a scheme, `absolute_url` doesn't either
abbrev pub AbsoluteUrlTwiceIsOnce : Type 0
AbsoluteUrlTwiceIsOnce =
    (address base : Text) (d : Datum) → is_absolute address ≡ true
    → absolute_url_answer address base d [] >>= (λ e. absolute_url_answer address base e []) ≡
    absolute_url_answer address base d []

-- `normalize_whitespace` keeps the words, so it changes nothing a second time, and
-- `number_of_words` stays
abbrev pub NormalizeKeepsWords : Type 0
NormalizeKeepsWords = (s : Text) → words (normalized s) ≡ words s

-- the groups have the items of the list, each as often as the list has it
abbrev pub GroupsLoseNothing : Type 0
GroupsLoseNothing =
    (name : Text) (ds : List Datum) →
    IsPermutation (flat_map (items_named name ds) (names_after name [] ds)) ds

-- no two groups have one name
abbrev pub GroupsDiffer : Type 0
GroupsDiffer = (name : Text) (ds : List Datum) → IsDistinct same_text (names_after name [] ds)

-- an item more at the end of a list: its group stands where it stood, or after all others where
-- there was none, and the item is the last one in it; the other groups stay
abbrev pub GroupsKeepOrder : Type 0
GroupsKeepOrder =
    (name : Text) (ds : List Datum) (d : Datum) →
    (names_after name [] (ds ++ d ∷ []) ≡ noted (group_name name d) (names_after name [] ds))
    × ((t : Text) → items_named name (ds ++ d ∷ []) t ≡ items_named name ds t ++
    (if same_text t (group_name name d) then d ∷ [] else []))
