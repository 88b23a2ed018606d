-- The laws of the list filters.
use Rattle.std.proofs.Common.{◌≡◌, ◌≢◌, ℕ, zero, suc, ◌-◌, Bool, true, false, not, List, [], ◌∷◌, length, map, slice_get, codes, Option, Some, None, Ok, Err, ap, refl, sym, subst, ◌∙◌, rules, if◌then◌else◌}
use Rattle.std.specs.Bool.{Decides}
use Rattle.std.specs.Str.{chars}
use Rattle.liquid_model.specs.Answer.{IsTheOne}
use Rattle.liquid_model.specs.Data.{Datum, nil, truth, number, text, array, object, Items, no_items, item, text_of, truthy}
use Rattle.liquid_model.specs.Digest.{items_len}
use Rattle.liquid_model.specs.Find.{item_at, item_back}
use Rattle.liquid_model.specs.Lists.{list_of}
use Rattle.liquid_model.specs.OrderLaws.{same_Decides}
use Rattle.liquid_model.specs.Texts.{Text}
use Rattle.liquid_model.specs.View.{items_of}
use Rattle.liquid_model.specs.declared.error.ErrorKind.TheVariants.{InvalidInput, InvalidArgument}
use Rattle.liquid_model.specs.Arguments.{Answer, first_of, text_or}
use Rattle.liquid_model.proofs.Ones.{image_one, same_one, either_one}
use Rattle.liquid_filters.specs.Ends.{character, or_nil}
use Rattle.liquid_filters.specs.Keeping.{is_nil, is_given, is_wanted, compact_of, where_of}
use Rattle.liquid_filters.specs.ListLaws.{Lists, Has, Wants, JoinIsOne, SortIsOne, SortNaturalIsOne, SortTwiceIsOnce, SortNaturalTwiceIsOnce, CompactIsOne, WhereIsOne, MapIsOne, UniqIsOne, ReverseIsOne, ConcatIsOne, FirstIsOne, LastIsOne}
use Rattle.liquid_filters.specs.ListPlaces.{IsJoined, KeepsItems, StartsWith, EndsWith}
use Rattle.liquid_filters.specs.Sequences.{list, sequence, all_maps, is_map, property}
use Rattle.liquid_filters.specs.Sorting.{Key, key_of, natural_key_of, sort_by}
use Rattle.liquid_filters.proofs.Keys.{keys_order}
use Rattle.liquid_filters.proofs.ListOnes.{keeps_one, values_one, firsts_one, joined_one, followed_one, starts_one, ends_one}
use Rattle.liquid_filters.proofs.Reversals.{reversed_one}
use Rattle.liquid_filters.proofs.Sorts.{sorted_twice, all_sorted}
use Rattle.liquid_filters.proofs.SortsByKey.{sort_one}

lists_one : (R : List Datum → Type 0) (ds : List Datum) → IsTheOne R ds → IsTheOne (Lists R) (Ok (list ds))
lists_one R ds h = image_one R (λ l. Ok (list l)) ds h

pub join_is_one : JoinIsOne
join_is_one (array ds) args = image_one (IsJoined (text_or (codes " ") args) (map text_of (list_of ds))) (λ s. Ok (text s)) _ (joined_one _ _)
join_is_one d args = same_one (Err InvalidInput)

pub sort_is_one : SortIsOne
sort_is_one d [] = lists_one _ _ (sort_one (key_of None) (sequence d))
sort_is_one d (name ∷ args) = either_one (all_maps (sequence d)) _ _ _ _ (lists_one _ _ (sort_one (key_of (Some (text_of name))) (sequence d))) (same_one (Err InvalidInput))

pub sort_natural_is_one : SortNaturalIsOne
sort_natural_is_one d [] = lists_one _ _ (sort_one (natural_key_of None) (sequence d))
sort_natural_is_one d (name ∷ args) = either_one (all_maps (sequence d)) _ _ _ _ (lists_one _ _ (sort_one (natural_key_of (Some (text_of name))) (sequence d))) (same_one (Err InvalidInput))

-- ---- a second sort
pub list_of_items : (ds : List Datum) → list_of (items_of ds) ≡ ds
list_of_items [] = refl
list_of_items (d ∷ ds) = ap (λ l. d ∷ l) (list_of_items ds)

abbrev answer : Datum → Answer
answer d = Ok d

twice : (key : Datum → Key) (d e : Datum) → answer (list (sort_by key (sequence d))) ≡ answer e → answer (list (sort_by key (sequence e))) ≡ answer e
twice key d e h =
    let f : e ≡ list (sort_by key (sequence d)) = cc in
    subst (λ x. answer (list (sort_by key (sequence x))) ≡ answer x) (sym f)
    (ap (λ l. answer (list l)) (ap (sort_by key) (list_of_items (sort_by key (sequence d))) ∙ sorted_twice _ (keys_order key) (sequence d)))

twice_of_maps : (key : Datum → Key) (d e : Datum) (b : Bool) → all_maps (sequence d) ≡ b → (if b then answer (list (sort_by key (sequence d))) else Err InvalidInput) ≡ answer e
    → (if all_maps (sequence e) then answer (list (sort_by key (sequence e))) else Err InvalidInput) ≡ answer e
twice_of_maps key d e true m h =
    let f : e ≡ list (sort_by key (sequence d)) = cc in
    let n : all_maps (sequence e) ≡ true =
    ap (λ x. all_maps (sequence x)) f ∙ ap all_maps (list_of_items (sort_by key (sequence d))) ∙ all_sorted _ is_map (sequence d) ∙ m in
    ap (λ b. if b then answer (list (sort_by key (sequence e))) else Err InvalidInput) n ∙ twice key d e h
twice_of_maps key d e false m h = cc

pub sort_twice_is_once : SortTwiceIsOnce
sort_twice_is_once d e [] h = twice (key_of None) d e h
sort_twice_is_once d e (name ∷ args) h = twice_of_maps (key_of (Some (text_of name))) d e _ refl h

pub sort_natural_twice_is_once : SortNaturalTwiceIsOnce
sort_natural_twice_is_once d e [] h = twice (natural_key_of None) d e h
sort_natural_twice_is_once d e (name ∷ args) h = twice_of_maps (natural_key_of (Some (text_of name))) d e _ refl h

-- ---- filters that keep items
not_nil : (d : Datum) → Decides (not (is_nil d)) (d ≢ nil)
not_nil nil = (λ h. absurd (let u : ⊥ = cc in u), λ n. absurd (n refl))
not_nil (truth b) = (λ h e. let u : ⊥ = cc in u, λ n. refl)
not_nil (number z) = (λ h e. let u : ⊥ = cc in u, λ n. refl)
not_nil (text s) = (λ h e. let u : ⊥ = cc in u, λ n. refl)
not_nil (array ds) = (λ h e. let u : ⊥ = cc in u, λ n. refl)
not_nil (object ps) = (λ h e. let u : ⊥ = cc in u, λ n. refl)

given_at : (o : Option Datum) → Decides (is_given o) ((e : Datum) × (o ≡ Some e) × (e ≢ nil))
given_at None = (λ h. absurd (let u : ⊥ = cc in u), λ m. absurd (let k = m.1 in let u : ⊥ = cc in u))
given_at (Some d) = (λ h. (d, refl, (not_nil d).0 h), λ m. (not_nil d).1 (λ n. m.2 (let k = m.1 in let f : m.0 ≡ d = cc in f ∙ n)))

wanted_at : (target o : Option Datum) → Decides (is_wanted target o) ((e : Datum) × (o ≡ Some e) × Wants target e)
wanted_at target None = (λ h. absurd (let u : ⊥ = cc in u), λ m. absurd (let k = m.1 in let u : ⊥ = cc in u))
wanted_at None (Some d) = (λ h. (d, refl, h), λ m. let k = m.1 in let f : d ≡ m.0 = cc in ap truthy f ∙ m.2)
wanted_at (Some t) (Some d) = (λ h. (d, refl, (same_Decides d t).0 h), λ m. let k = m.1 in let f : d ≡ m.0 = cc in (same_Decides d t).1 (f ∙ m.2))

given_one : (name : Text) (ds : List Datum) → IsTheOne (KeepsItems (Has name (λ e. e ≢ nil)) ds) (compact_of name ds)
given_one name ds = keeps_one (Has name (λ e. e ≢ nil)) (λ d. is_given (property name d)) (λ d. given_at (property name d)) ds

wanted_one : (name : Text) (target : Option Datum) (ds : List Datum) → IsTheOne (KeepsItems (Has name (Wants target)) ds) (where_of name target ds)
wanted_one name target ds = keeps_one (Has name (Wants target)) (λ d. is_wanted target (property name d)) (λ d. wanted_at target (property name d)) ds

pub compact_is_one : CompactIsOne
compact_is_one (array ds) [] = lists_one _ _ (keeps_one (λ e. e ≢ nil) (λ e. not (is_nil e)) not_nil (list_of ds))
compact_is_one (array ds) (name ∷ args) = either_one (all_maps (list_of ds)) _ _ _ _ (lists_one _ _ (given_one (text_of name) (list_of ds))) (same_one (Err InvalidInput))
compact_is_one d [] = same_one (Err InvalidInput)
compact_is_one d (name ∷ args) = same_one (Err InvalidInput)

pub where_is_one : WhereIsOne
where_is_one (array ds) name args = either_one (all_maps (list_of ds)) _ _ _ _ (lists_one _ _ (wanted_one (text_of name) (first_of args) (list_of ds))) (same_one (Ok nil))
where_is_one (object ps) name args = lists_one _ _ (wanted_one (text_of name) (first_of args) (object ps ∷ []))
where_is_one d name args = same_one (Err InvalidInput)

pub map_is_one : MapIsOne
map_is_one (array ds) name args = lists_one _ _ (values_one (property (text_of name)) (list_of ds))
map_is_one d name args = same_one (Err InvalidInput)

pub uniq_is_one : UniqIsOne
uniq_is_one (array ds) args = lists_one _ _ (firsts_one (list_of ds))
uniq_is_one d args = same_one (Err InvalidInput)

pub reverse_is_one : ReverseIsOne
reverse_is_one (array ds) args = lists_one _ _ (reversed_one (list_of ds))
reverse_is_one d args = same_one (Err InvalidInput)

pub concat_is_one : ConcatIsOne
concat_is_one (array ds) (array es) args = lists_one _ _ (followed_one (list_of ds) (list_of es))
concat_is_one (array ds) e args = same_one (Err InvalidArgument)
concat_is_one d e args = same_one (Err InvalidInput)

-- ---- ends
placed : (ds : Items) (n : ℕ) → item_at n ds ≡ slice_get (list_of ds) n
placed no_items n = refl
placed (item d ds) zero = refl
placed (item d ds) (suc n) = placed ds n

counted : (ds : Items) → items_len ds ≡ length (list_of ds)
counted no_items = refl
counted (item d ds) = ap suc (counted ds)

placed_back : (ds : Items) → item_back 1 ds ≡ slice_get (list_of ds) (length (list_of ds) - 1)
placed_back no_items = refl
placed_back (item d ds) =
    let m : item_back 1 (item d ds) ≡ item_at (length (list_of (item d ds)) - 1) (item d ds) = rw (counted ds) (search rules) in
    m ∙ placed (item d ds) (length (list_of (item d ds)) - 1)

first_of_list : (ds : Items) → IsTheOne (StartsWith (list_of ds)) (item_at 0 ds)
first_of_list ds = subst (IsTheOne (StartsWith (list_of ds))) (sym (placed ds 0)) (starts_one (list_of ds))

last_of_list : (ds : Items) → IsTheOne (EndsWith (list_of ds)) (item_back 1 ds)
last_of_list ds = subst (IsTheOne (EndsWith (list_of ds))) (sym (placed_back ds)) (ends_one (list_of ds))

abbrev of_character : Option ℕ → Answer
of_character o = Ok (text (character o))

pub first_is_one : FirstIsOne
first_is_one nil args = same_one (Err InvalidInput)
first_is_one (object ps) args = same_one (Err InvalidInput)
first_is_one (array ds) args = image_one (StartsWith (list_of ds)) (λ o. answer (or_nil o)) (item_at 0 ds) (first_of_list ds)
first_is_one d args = image_one (StartsWith (chars (text_of d))) of_character _ (starts_one (chars (text_of d)))

pub last_is_one : LastIsOne
last_is_one nil args = same_one (Err InvalidInput)
last_is_one (object ps) args = same_one (Err InvalidInput)
last_is_one (array ds) args = image_one (EndsWith (list_of ds)) (λ o. answer (or_nil o)) (item_back 1 ds) (last_of_list ds)
last_is_one d args = image_one (EndsWith (chars (text_of d))) of_character _ (ends_one (chars (text_of d)))
