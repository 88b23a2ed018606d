-- Plain copies of uses: name by name they ask at least as much.
use Rattle.std.proofs.Common.{◌≡◌, ℕ, Bool, true, false, cond, not, ◌&&◌, ◌||◌, List, [], ◌∷◌, ◌++◌, String, Global, BTreeMap, Ordering, Less, Equal, Greater, is_eq, bytes_eq, Option, Some, None, Result, Ok, Err, nat_cmp, string_bytes, string_cmp, codes, refl, sym, ap, ◌∙◌}
use mathlib.Core.Path.{subst}
use Rattle.std.proofs.lemmas.Cmp.{nat_list_cmp_total}
use Rattle.std.proofs.lemmas.Map.Text.{is_eq-slice_cmp}
use Rattle.std.specs.BTreeMap.{insert_entry}
use Rattle.std.specs.Cmp.Lexicographic.{slice_cmp, bytes_decides}
use Rattle.std.specs.List.{AllByRecursion}
use Rattle.std.specs.List.Sorted.{IsStrictlySortedBy}
use Rattle.std.specs.Map.{keys_of}
use Rattle.std.specs.Ordering.{match_ordering, ordering_reverse}
use Rattle.liquid_model.specs.Answer.{Answers}
use Rattle.liquid_model.specs.Texts.{Text, same_text}
use Rattle.liquid_model.specs.Data.{Datum, nil, truth, number, text, array, object, no_items, Pairs, no_pairs}
use Rattle.liquid_model.specs.Find.{value_at, or_size, counted}
use Rattle.liquid_model.specs.Digest.{pairs_len}
use Rattle.liquid_model.specs.Skipping.{AlikeKeys}
use Rattle.liquid_model.specs.Projected.{use_of_key}
use Rattle.liquid_model.specs.Uses.{Use, nothing, everything, parts, Fields, no_fields, field, ItemUse, uncounted, up_to, loop_items_of, PairwiseUpTo, Alike, AlikeFields, AlikeItems, use_in, member, asks_whether, is_place, join}
use Rattle.liquid_model.specs.UseViews.{use_view, members_view, uses_view}
use Rattle.liquid_model.specs.declared.error.Error.{Error}
use Rattle.liquid_model.specs.declared.error.ErrorKind.{ErrorKind}
use Rattle.liquid_model.specs.declared.uses.Use as code
use Rattle.liquid_model.proofs.Alike.{up_to_more, alike_at, alike_equal, alike_same}
use Rattle.liquid_json.specs.Asked.{AnswersAlike}
use Rattle.liquid_json.specs.PlainUses.{is_plain_use, plain_fields}
use Rattle.liquid_json.specs.inside.Copies.{finds_by_place, any_by_place, each_plain, AsksMore, AskMore, ItemsAskMore}
use Rattle.liquid_json.proofs.PlainUses.{first_true, second_true}

abbrev pub Entry : Type 0
Entry = String Global × code.Use

both : (a b : Bool) → a ≡ true → b ≡ true → a && b ≡ true
both true b e f = f
both false b e f = absurd cc

first_false : (a b : Bool) → a || b ≡ false → a ≡ false
first_false true b e = absurd cc
first_false false b e = refl

second_false : (a b : Bool) → a || b ≡ false → b ≡ false
second_false true b e = absurd cc
second_false false b e = e

-- ---- one more name

pub plain_insert : (es : List Entry) (k : String Global) (u : code.Use) → is_plain_use (use_view u) ≡ true → each_plain (members_view es) ≡ true → each_plain (members_view (insert_entry string_cmp es k u)) ≡ true
plain_insert [] k u p h = both (is_plain_use (use_view u)) true p refl
plain_insert (e ∷ es) k u p h = at (string_cmp k e.0) (plain_insert es k u p (second_true (is_plain_use (use_view e.1)) _ h))
  where
    rest : each_plain (members_view es) ≡ true
    rest = second_true (is_plain_use (use_view e.1)) _ h

    at : (o : Ordering) → each_plain (members_view (insert_entry string_cmp es k u)) ≡ true → each_plain (members_view (match_ordering o ((k, u) ∷ e ∷ es) ((e.0, u) ∷ es) (e ∷ insert_entry string_cmp es k u))) ≡ true
    at Less inside = both (is_plain_use (use_view u)) _ p h
    at Equal inside = both (is_plain_use (use_view u)) _ p rest
    at Greater inside = both (is_plain_use (use_view e.1)) _ (first_true (is_plain_use (use_view e.1)) _ h) inside

below_middle : (first : Entry) (es : List Entry) (e : Entry) (more : List Entry) → AllByRecursion (λ y. string_cmp first.0 y ≡ Less) (keys_of (es ++ e ∷ more)) → string_cmp first.0 e.0 ≡ Less
below_middle first [] e more h = h.0
below_middle first (x ∷ es) e more h = below_middle first es e more h.1

-- it goes last
pub one_more : (copies done : List Entry) (k : String Global) (u : code.Use) (e : Entry) (more : List Entry) → IsStrictlySortedBy string_cmp (keys_of (done ++ e ∷ more))
    → string_bytes k ≡ string_bytes e.0 → AsksMore (use_view u) (use_view e.1) → AskMore (members_view copies) (members_view done) → AskMore (members_view (insert_entry string_cmp copies k u)) (members_view (done ++ e ∷ []))
unfolding IsStrictlySortedBy
one_more [] [] k u e more h same asks a = (same, (asks, tt))
one_more [] (n ∷ done) k u e more h same asks a = absurd a
one_more (m ∷ copies) [] k u e more h same asks a = absurd a
one_more (m ∷ copies) (n ∷ done) k u e more h same asks a =
    let below : slice_cmp nat_cmp (string_bytes n.0) (string_bytes e.0) ≡ Less = below_middle n done e more h.0 in
    let lower : slice_cmp nat_cmp (string_bytes m.0) (string_bytes k) ≡ Less = (λ i. slice_cmp nat_cmp (a.0 i) (same i)) ∙ below in
    let above : slice_cmp nat_cmp (string_bytes k) (string_bytes m.0) ≡ Greater = nat_list_cmp_total.antisymm (string_bytes k) (string_bytes m.0) ∙ ap ordering_reverse lower in
    subst (λ o. AskMore (members_view (match_ordering o ((k, u) ∷ m ∷ copies) ((m.0, u) ∷ copies) (m ∷ insert_entry string_cmp copies k u))) (members_view (n ∷ done ++ e ∷ []))) (sym above)
    (a.0, (a.1.0, one_more copies done k u e more h.1 same asks a.1.1))

-- ---- all names

abbrev names : Fields → List Text
names no_fields = []
names (field k u more) = k ∷ names more

abbrev Ascend : List Text → Type 0
Ascend [] = Unit {0}
Ascend (k ∷ ks) = AllByRecursion (λ l. slice_cmp nat_cmp k l ≡ Less) ks × Ascend ks

named_above : (k : String Global) (es more : List Entry) → AllByRecursion (λ l. string_cmp k l ≡ Less) (keys_of (es ++ more)) → AllByRecursion (λ l. slice_cmp nat_cmp (string_bytes k) l ≡ Less) (names (members_view es))
named_above k [] more h = tt
named_above k (e ∷ es) more h = (h.0, named_above k es more h.1)

ascend : (es more : List Entry) → IsStrictlySortedBy string_cmp (keys_of (es ++ more)) → Ascend (names (members_view es))
unfolding IsStrictlySortedBy
ascend [] more h = tt
ascend (e ∷ es) more h = (named_above e.0 es more h.0, ascend es more h.1)

same_names : (more less : Fields) → AskMore more less → names more ≡ names less
same_names no_fields no_fields h = refl
same_names no_fields (field l v less) h = absurd h
same_names (field k u more) no_fields h = absurd h
same_names (field k u more) (field l v less) h = (λ i. h.0 i ∷ same_names more less h.1.1 i)

by_names : (more less : Fields) → AskMore more less → any_by_place more ≡ any_by_place less
by_names no_fields no_fields h = refl
by_names no_fields (field l v less) h = absurd h
by_names (field k u more) no_fields h = absurd h
by_names (field k u more) (field l v less) h = (λ i. finds_by_place (h.0 i) || by_names more less h.1.1 i)

other_below : (k l : Text) → slice_cmp nat_cmp k l ≡ Less → (b : Bool) → same_text l k ≡ b → b ≡ false
other_below k l below true e =
    let alike : bytes_eq k l ≡ true = (bytes_decides k l).1 (sym ((bytes_decides l k).0 e)) in
    absurd (clash (is_eq-slice_cmp k l ∙ alike) (ap is_eq below))
  where
    clash : {b : Bool} → b ≡ true → b ≡ false → ⊥
    clash e f = absurd cc
other_below k l below false e = refl

none_above : (k : Text) (ms : Fields) → AllByRecursion (λ l. slice_cmp nat_cmp k l ≡ Less) (names ms) → asks_whether (use_of_key k ms) ≡ false
none_above k no_fields h = refl
none_above k (field l u more) h = at (same_text l k) (other_below k l h.0 _ refl) (none_above k more h.1)
  where
    at : (b : Bool) → b ≡ false → asks_whether (use_of_key k more) ≡ false → asks_whether (cond b (join u (use_of_key k more)) (use_of_key k more)) ≡ false
    at true e rest = absurd cc
    at false e rest = rest

negated : (b : Bool) → b ≡ false → not b ≡ true
negated true e = absurd cc
negated false e = refl

plain_from : (ms : Fields) → Ascend (names ms) → any_by_place ms ≡ false → each_plain ms ≡ true → plain_fields ms ≡ true
plain_from no_fields h none each = refl
plain_from (field k u more) h none each =
    both _ _ (negated _ (first_false (finds_by_place k) _ none))
    (both _ _ (negated _ (none_above k more h.0)) (both (is_plain_use u) _ (first_true (is_plain_use u) _ each) (plain_from more h.1 (second_false (finds_by_place k) _ none) (second_true (is_plain_use u) _ each))))

pub plain_copies : (more : Fields) (done left : List Entry) → IsStrictlySortedBy string_cmp (keys_of (done ++ left)) → any_by_place (members_view (done ++ left)) ≡ false → AskMore more (members_view done) → each_plain more ≡ true → plain_fields more ≡ true
plain_copies more done left sorted none asks each =
    plain_from more (subst Ascend (sym (same_names more (members_view done) asks)) (ascend done left sorted)) (by_names more (members_view done) asks ∙ none_of done none) each
  where
    none_of : (es : List Entry) → any_by_place (members_view (es ++ left)) ≡ false → any_by_place (members_view es) ≡ false
    none_of [] h = refl
    none_of (e ∷ es) h = ap (λ b. b || any_by_place (members_view es)) (first_false (finds_by_place (string_bytes e.0)) _ h) ∙ none_of es (second_false (finds_by_place (string_bytes e.0)) _ h)

pub nil_right : (es : List Entry) → es ++ [] ≡ es
nil_right [] = refl
nil_right (e ∷ es) = ap (λ l. e ∷ l) (nil_right es)

-- ---- what asks for more

pub same_more : (u : Use) → AsksMore u u
same_more u o p a = a

pub all_more : (u : Use) → AsksMore everything u
all_more u o p a = alike_equal u o p a

fields_more : (more less : Fields) (o p : Option Datum) → AskMore more less → AlikeFields more o p → AlikeFields less o p
fields_more no_fields no_fields o p h a = tt
fields_more no_fields (field l v less) o p h a = absurd h
fields_more (field k u more) no_fields o p h a = absurd h
fields_more (field k u more) (field l v less) o p h a =
    (subst (λ key. Alike v (member key o) (member key p)) h.0 (h.1.0 (member k o) (member k p) a.0), fields_more more less o p h.1.1 a.1)

items_more : (more less : ItemUse) (o p : Option Datum) → ItemsAskMore more less → AlikeItems more o p → AlikeItems less o p
items_more uncounted uncounted o p h a = tt
items_more (up_to m u) uncounted o p h a = tt
items_more uncounted (up_to n v) o p h a = absurd h
items_more (up_to m u) (up_to n v) o p h a =
    up_to_more _ _ (λ d e k. h.1 (Some d) (Some e) k) n (loop_items_of o) (loop_items_of p)
    (subst (λ l. PairwiseUpTo l (λ d e. Alike u (Some d) (Some e)) (loop_items_of o) (loop_items_of p)) h.0 a)

pub parts_more : (members others : Fields) (turns fewer : ItemUse) → AskMore members others → ItemsAskMore turns fewer → AsksMore (parts members turns) (parts others fewer)
parts_more members others turns fewer h g o p a = (a.0, (fields_more members others o p h a.1.0, items_more turns fewer o p g a.1.1))

pub use_more : (more less : Fields) (key : Text) → AskMore more less → AsksMore (use_in key more) (use_in key less)
use_more no_fields no_fields key h o p a = tt
use_more no_fields (field l v less) key h o p a = absurd h
use_more (field k u more) no_fields key h o p a = absurd h
use_more (field k u more) (field l v less) key h o p a =
    subst (λ n. Alike (cond (same_text n key) v (use_in key less)) o p) h.0 (at (same_text k key) a (use_more more less key h.1.1 o p))
  where
    at : (b : Bool) → Alike (cond b u (use_in key more)) o p → (Alike (use_in key more) o p → Alike (use_in key less) o p) → Alike (cond b v (use_in key less)) o p
    at true a rest = h.1.0 o p a
    at false a rest = rest a

-- ---- the whole data

pub whole_answers : {X : Type 0} (seen : X → Pairs) (U : Text → Use) (r : Result X Error) (wanted : Result Pairs ErrorKind) → Answers seen r wanted → AnswersAlike seen U r wanted
whole_answers seen U (Ok m) wanted h = (seen m, h, (λ key. alike_same (U key) _))
whole_answers seen U (Err e) wanted h = h

-- ---- a map that is alike in its members

no_length : (o : Option Datum) (key : Text) (n : ℕ) → same_text key (codes "size") ≡ false → or_size o key n ≡ o
no_length (Some d) key n e = refl
no_length None key n e = ap (λ b. cond b (Some (counted n)) None) e

no_size_asked : (ms : Fields) (key : Text) → plain_fields ms ≡ true → same_text key (codes "size") ≡ true → use_in key ms ≡ nothing
no_size_asked no_fields key h e = refl
no_size_asked (field k u more) key h e =
    at (same_text k key) refl (no_size_asked more key (second_true (is_plain_use u) _ (second_true (not (asks_whether (use_of_key k more))) _ (second_true (not (same_text k (codes "size") || is_place k)) _ h))) e)
  where
    unsized : same_text k (codes "size") ≡ true → ⊥
    unsized is = clash (same_text k (codes "size")) (is_place k) is (first_true (not (same_text k (codes "size") || is_place k)) _ h)
      where
        clash : (a b : Bool) → a ≡ true → not (a || b) ≡ true → ⊥
        clash true b e f = absurd cc
        clash false b e f = absurd cc

    at : (b : Bool) → same_text k key ≡ b → use_in key more ≡ nothing → cond b u (use_in key more) ≡ nothing
    at true is rest = absurd (unsized (ap (λ t. same_text t (codes "size")) ((bytes_decides k key).0 is) ∙ e))
    at false is rest = rest

keys_alike : (ms : Fields) (turns : ItemUse) (qs ps : Pairs) → plain_fields ms ≡ true → Alike (parts ms turns) (Some (object qs)) (Some (object ps)) → AlikeKeys (λ key. use_in key ms) qs ps
keys_alike ms turns qs ps h a key = at (same_text key (codes "size")) refl
  where
    at : (b : Bool) → same_text key (codes "size") ≡ b → Alike (use_in key ms) (value_at key qs) (value_at key ps)
    at true e = subst (λ u. Alike u (value_at key qs) (value_at key ps)) (sym (no_size_asked ms key h e)) tt
    at false e =
        subst (λ o. Alike (use_in key ms) o (value_at key ps)) (no_length (value_at key qs) key (pairs_len qs) e)
        (subst (λ o. Alike (use_in key ms) (or_size (value_at key qs) key (pairs_len qs)) o) (no_length (value_at key ps) key (pairs_len ps) e)
        (alike_at key (parts ms turns) (Some (object qs)) (Some (object ps)) a))

pub map_alike : (ms : Fields) (turns : ItemUse) (d : Datum) (ps : Pairs) → plain_fields ms ≡ true → Alike (parts ms turns) (Some d) (Some (object ps)) → (qs : Pairs) × (d ≡ object qs) × AlikeKeys (λ key. use_in key ms) qs ps
map_alike ms turns nil ps h a = let e : Some (nil) ≡ Some (object no_pairs) = a.0 in absurd cc
map_alike ms turns (truth b) ps h a = let e : Some (truth b) ≡ Some (object no_pairs) = a.0 in absurd cc
map_alike ms turns (number z) ps h a = let e : Some (number z) ≡ Some (object no_pairs) = a.0 in absurd cc
map_alike ms turns (text s) ps h a = let e : Some (text s) ≡ Some (object no_pairs) = a.0 in absurd cc
map_alike ms turns (array ds) ps h a = let e : Some (array no_items) ≡ Some (object no_pairs) = a.0 in absurd cc
map_alike ms turns (object qs) ps h a = (qs, refl, keys_alike ms turns qs ps h a)
