-- Paths in the data, as messages show them.
--     data_path_text path count      a path with its first `count` steps, as
--                                    `shop.products[].title`
--     list_before steps      how many steps lead to the innermost list whose items they go over
--     lack_words path list      what lacks a path: the data, or an item of that list
--     lacking_text path list count      what it lacks, up to step number `count` of the path
--     meant_text path list count key      the same with another key in place of the last
--     is_needed want      what is wanted has to be there
use Rattle.std.specs.Prelude.{ℕ, suc, ◌-◌, List, [], ◌∷◌, ◌++◌, codes, drop, take, string_bytes}
use Rattle.std.specs.Prelude.{Option, Some, None, Bool, true, false}
use Rattle.liquid_model.specs.Texts.{Text}
use Rattle.liquid_warnings.specs.declared.data_path.DataPath.{DataPath}
use Rattle.liquid_warnings.specs.declared.data_path.Step.{Step}
use Rattle.liquid_warnings.specs.declared.data_path.Step.TheVariants.{Each, Key}
use Rattle.liquid_warnings.specs.declared.doubt.Want.{Want}
use Rattle.liquid_warnings.specs.declared.doubt.Want.TheVariants.{Present, Perhaps, Date, Items}
use Rattle.liquid_warnings.specs.declared.doubt.Want.TheVariants.{Searched, Contained, Number}
use Rattle.liquid_warnings.specs.declared.doubt.Want.TheVariants.{Tested, Truth}
use Rattle.liquid_warnings.specs.declared.doubt.Want.TheVariants.{NumberWord, TruthWord}
use Rattle.liquid_warnings.specs.declared.doubt.Want.TheVariants.{Defaulted, Keyed, Shown}
use Rattle.liquid_warnings.specs.declared.doubt.Want.TheVariants.{Sized, Word}
use Rattle.liquid_warnings.specs.Messages.{item_words}

abbrev pub step_text : Step → Text
step_text (Key key) = codes "." ++ string_bytes key
step_text Each = codes "[]"

abbrev pub steps_text : List Step → Text
steps_text [] = []
steps_text (step ∷ steps) = step_text step ++ steps_text steps

abbrev pub data_path_text : DataPath → ℕ → Text
data_path_text path count = string_bytes path.name ++ steps_text (take count path.steps.items)

-- of the steps after the first n, of which the last one to each item stands at the place `found`
abbrev pub list_from : ℕ → Option ℕ → List Step → Option ℕ
list_from n found [] = found
list_from n found (Key key ∷ steps) = list_from (suc n) found steps
list_from n found (Each ∷ steps) = list_from (suc n) (Some n) steps

abbrev pub list_before : List Step → Option ℕ
list_before steps = list_from 0 None steps

-- a key after what stands before it, with a dot between
abbrev pub key_after : Text → Text → Text
key_after [] key = key
key_after (c ∷ cs) key = (c ∷ cs) ++ (codes "." ++ key)

-- the keys of steps, each after those before it
abbrev pub with_step_key : Text → Step → Text
with_step_key before (Key key) = key_after before (string_bytes key)
with_step_key before Each = before

abbrev pub with_step_keys : Text → List Step → Text
with_step_keys before [] = before
with_step_keys before (step ∷ steps) = with_step_keys (with_step_key before step) steps

abbrev pub lack_words : DataPath → Option ℕ → Text
lack_words path None = codes "the data has no"
lack_words path (Some place) = item_words (data_path_text path place)

-- of the first `count` steps of the path, those after the one to each item of the list
abbrev pub steps_past : DataPath → ℕ → ℕ → List Step
steps_past path place count = drop (suc place) (take count path.steps.items)

abbrev pub lacking_text : DataPath → Option ℕ → ℕ → Text
lacking_text path None count = data_path_text path count
lacking_text path (Some place) count = with_step_keys [] (steps_past path place count)

abbrev pub meant_text : DataPath → Option ℕ → ℕ → Text → Text
meant_text path list count key = key_after (lacking_text path list (count - 1)) key

-- nil is as good as a value that a condition tests, that a filter gets, or that is to be a date
abbrev pub is_needed : Want → Bool
is_needed Present = true
is_needed Perhaps = false
is_needed Searched = true
is_needed Contained = true
is_needed Date = false
is_needed Number = true
is_needed Truth = true
is_needed NumberWord = true
is_needed TruthWord = true
is_needed Tested = false
is_needed Shown = true
is_needed Word = true
is_needed Defaulted = false
is_needed Keyed = false
is_needed Sized = false
is_needed (Items span) = true
