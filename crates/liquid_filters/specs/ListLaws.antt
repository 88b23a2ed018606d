-- What each list filter's answer is, said without the filter: the relation that holds of it and of
-- nothing else.
use Rattle.std.specs.Prelude.{◌≡◌, ◌≢◌, ℕ, IsTrue, MatchBool, List, [], ◌∷◌, map, codes, Option}
use Rattle.std.specs.Prelude.{Some, None, Ok, Err}
use Rattle.std.specs.Str.{chars}
use Rattle.liquid_model.specs.Answer.{IsTheOne}
use Rattle.liquid_model.specs.Data.{Datum, nil, text, array, object, text_of, truthy}
use Rattle.liquid_model.specs.Lists.{list_of}
use Rattle.liquid_model.specs.Texts.{Text}
use Rattle.liquid_model.specs.declared.error.ErrorKind.TheVariants.{InvalidInput, InvalidArgument}
use Rattle.liquid_model.specs.Arguments.{Answer, first_of, text_or}
use Rattle.liquid_filters.specs.Ends.{character, or_nil, first_answer, last_answer}
use Rattle.liquid_filters.specs.Joined.{join_answer}
use Rattle.liquid_filters.specs.Keeping.{compact_answer, where_answer, map_answer, uniq_answer}
use Rattle.liquid_filters.specs.ListPlaces.{StartsWith, EndsWith, IsReversed, IsFollowed, IsJoined}
use Rattle.liquid_filters.specs.ListPlaces.{KeepsItems, KeepsValues, KeepsFirsts}
use Rattle.liquid_filters.specs.Rows.{reverse_answer, concat_answer}
use Rattle.liquid_filters.specs.Sequences.{list, sequence, all_maps, property}
use Rattle.liquid_filters.specs.Sorting.{Key, key_of, natural_key_of, sort_answer}
use Rattle.liquid_filters.specs.Sorting.{sort_natural_answer}
use Rattle.liquid_filters.specs.Sorts.{IsSort}

-- the answer is a list of which R holds
abbrev pub Lists : (List Datum → Type 0) → Answer → Type 0
Lists R a = (out : List Datum) × (a ≡ Ok (list out)) × R out

-- of a list an answer that stands to its items in R; another input is refused
abbrev pub OfList : (List Datum → Answer → Type 0) → Datum → Answer → Type 0
OfList R (array ds) a = R (list_of ds) a
OfList R _ a = a ≡ Err InvalidInput

-- where all items are maps R holds of the answer, else S
abbrev pub OfMaps : List Datum → (Answer → Type 0) → (Answer → Type 0) → Answer → Type 0
OfMaps ds R S a = MatchBool (all_maps ds) (R a) (S a)

abbrev pub Joins : Datum → List Datum → Answer → Type 0
Joins d args = OfList (λ ds a. (s : Text) × (a ≡ Ok (text s)) ×
    IsJoined (text_or (codes " ") args) (map text_of ds) s) d

abbrev pub JoinIsOne : Type 0
JoinIsOne = (d : Datum) (args : List Datum) → IsTheOne (Joins d args) (join_answer d args)

-- ---- sorts
abbrev pub Sorts : (Option Text → Datum → Key) → Datum → List Datum → Answer → Type 0
Sorts key d [] a = Lists (IsSort (key None) (sequence d)) a
Sorts key d (name ∷ args) a =
    OfMaps (sequence d) (Lists (IsSort (key (Some (text_of name))) (sequence d))) (λ b. b ≡
    Err InvalidInput) a

abbrev pub SortIsOne : Type 0
SortIsOne = (d : Datum) (args : List Datum) → IsTheOne (Sorts key_of d args) (sort_answer d args)

abbrev pub SortNaturalIsOne : Type 0
SortNaturalIsOne = (d : Datum) (args : List Datum) →
    IsTheOne (Sorts natural_key_of d args) (sort_natural_answer d args)

-- where it isn't refused, a sort twice is the sort once
abbrev pub SortTwiceIsOnce : Type 0
SortTwiceIsOnce = (d e : Datum) (args : List Datum) → sort_answer d args ≡ Ok e →
    sort_answer e args ≡ Ok e

abbrev pub SortNaturalTwiceIsOnce : Type 0
SortNaturalTwiceIsOnce = (d e : Datum) (args : List Datum) → sort_natural_answer d args ≡ Ok e →
    sort_natural_answer e args ≡ Ok e

-- ---- filters that keep items
abbrev pub Has : Text → (Datum → Type 0) → Datum → Type 0
Has name P d = (e : Datum) × (property name d ≡ Some e) × P e

abbrev pub Compacts : Datum → List Datum → Answer → Type 0
Compacts d [] a = OfList (λ ds. Lists (KeepsItems (λ e. e ≢ nil) ds)) d a
Compacts d (name ∷ args) a =
    OfList (λ ds. OfMaps ds (Lists (KeepsItems (Has (text_of name) (λ e. e ≢ nil)) ds)) (λ b. b ≡
    Err InvalidInput)) d a

abbrev pub CompactIsOne : Type 0
CompactIsOne = (d : Datum) (args : List Datum) → IsTheOne (Compacts d args) (compact_answer d args)

abbrev pub Wants : Option Datum → Datum → Type 0
Wants None e = IsTrue (truthy e)
Wants (Some target) e = e ≡ target

abbrev pub Chooses : Text → Option Datum → List Datum → Answer → Type 0
Chooses name target ds = OfMaps ds (Lists (KeepsItems (Has name (Wants target)) ds))
    (λ b. b ≡ Ok nil)

abbrev pub Wheres : Text → Option Datum → Datum → Answer → Type 0
Wheres name target (object ps) a = Chooses name target (object ps ∷ []) a
Wheres name target d a = OfList (Chooses name target) d a

abbrev pub WhereIsOne : Type 0
WhereIsOne = (d name : Datum) (args : List Datum) →
    IsTheOne (Wheres (text_of name) (first_of args) d) (where_answer d (name ∷ args))

abbrev pub Maps : Text → Datum → Answer → Type 0
Maps name d = OfList (λ ds. Lists (KeepsValues (property name) ds)) d

abbrev pub MapIsOne : Type 0
MapIsOne = (d name : Datum) (args : List Datum) →
    IsTheOne (Maps (text_of name) d) (map_answer d (name ∷ args))

abbrev pub Uniqs : Datum → Answer → Type 0
Uniqs d = OfList (λ ds. Lists (KeepsFirsts [] ds)) d

abbrev pub UniqIsOne : Type 0
UniqIsOne = (d : Datum) (args : List Datum) → IsTheOne (Uniqs d) (uniq_answer d args)

-- ---- rows and ends
abbrev pub Reverses : Datum → Answer → Type 0
Reverses d = OfList (λ ds. Lists (IsReversed ds)) d

abbrev pub ReverseIsOne : Type 0
ReverseIsOne = (d : Datum) (args : List Datum) → IsTheOne (Reverses d) (reverse_answer d args)

-- the input is looked at before the argument
abbrev pub Follows : Datum → List Datum → Answer → Type 0
Follows (array es) ds a = Lists (IsFollowed ds (list_of es)) a
Follows _ ds a = a ≡ Err InvalidArgument

abbrev pub Concats : Datum → Datum → Answer → Type 0
Concats e d = OfList (Follows e) d

abbrev pub ConcatIsOne : Type 0
ConcatIsOne = (d e : Datum) (args : List Datum) →
    IsTheOne (Concats e d) (concat_answer d (e ∷ args))

-- an end of a list, or of the characters of a scalar's text
abbrev pub OfEnds : (List Datum → Option Datum → Type 0) → (List ℕ → Option ℕ → Type 0) → Datum →
    Answer → Type 0
OfEnds R S nil a = a ≡ Err InvalidInput
OfEnds R S (object ps) a = a ≡ Err InvalidInput
OfEnds R S (array ds) a = (o : Option Datum) × (a ≡ Ok (or_nil o)) × R (list_of ds) o
OfEnds R S d a = (o : Option ℕ) × (a ≡ Ok (text (character o))) × S (chars (text_of d)) o

abbrev pub FirstIsOne : Type 0
FirstIsOne = (d : Datum) (args : List Datum) →
    IsTheOne (OfEnds StartsWith StartsWith d) (first_answer d args)

abbrev pub LastIsOne : Type 0
LastIsOne = (d : Datum) (args : List Datum) →
    IsTheOne (OfEnds EndsWith EndsWith d) (last_answer d args)
