-- The laws' proofs, over the definitions alone.
use Rattle.std.proofs.Common.{◌≡◌, ℕ, zero, suc, ◌+◌, ◌-◌, ◌<◌, ◌≤◌, negsuc, Bool, true, false, cond, List, [], ◌∷◌, ◌++◌, length, codes, Option, Some, None, nat_le, refl, sym, ap, ◌∙◌, arith, rules}
use Rattle.std.specs.List.{slice_get}
use Rattle.std.specs.Option.{option_and_then}
use Rattle.std.specs.Ordering.{ordering_then, nat_cmp, int_cmp, is_eq}
use Rattle.std.specs.declared.cmp.Ordering.{Ordering}
use Rattle.std.specs.declared.cmp.Ordering.TheVariants.{Less, Equal, Greater}
use Rattle.std.specs.Cmp.{Equal-is, nat_cmp_is, int_cmp_is}
use Rattle.std.specs.Cmp.Lexicographic.{slice_cmp}
use Rattle.std.proofs.lemmas.Cmp.{tied_itself, int_ranked, nat_list_cmp_total}
use Rattle.std.proofs.lemmas.Map.Text.{is_eq-slice_cmp}
use Rattle.std.proofs.lemmas.Slice.Eq.{bytes_eq-Decides}
use Rattle.std.proofs.lemmas.List.{length_push}
use Rattle.std.proofs.lemmas.Bool.Decides.{nat_tests}
use Rattle.liquid_model.specs.Data.{Datum, nil, truth, number, text, array, object, Items, no_items, item, Pairs, no_pairs, pair, text_of}
use Rattle.liquid_model.specs.View.{items_of}
use Rattle.liquid_model.specs.Order.{rank, order, order_within, same, items_order, pairs_order}
use Rattle.liquid_model.specs.OrderLaws.{order_total, order_same, same_Decides}
use Rattle.liquid_model.specs.Digest.{same_digest, items_len}
use Rattle.liquid_model.specs.Compare.{compare, items_compare, pairs_compare, by_key}
use Rattle.liquid_model.specs.Find.{find, step, item_at, item_step, counted}
use Rattle.liquid_model.specs.Laws.{array_of, EqualityIsAnEquivalence, EqualValuesHashAlike, OrderIsTotal, KindsAreRanked, ScalarsAreOrdered, FirstUnequalPlaceDecides, MapsGoPairByPair, ComparePairByPair, CompareAgreesWithEquality, CompareWithoutAnswer, CompareByFirstUnequalPlace, ListTextIsItemTexts, NumberTextIsRead, FindGoesOn, ScalarsAloneFind, ItemsByIndex, TextsIndexToo, ItemsByName, OwnKeysWin, PutIsFound}
use Rattle.liquid_model.proofs.Compares.{number_text_is_read}
use Rattle.liquid_model.proofs.Maps.{value_at_put, value_at_put_other}

-- ---- equality and the total order

pub equality_is_an_equivalence : EqualityIsAnEquivalence
equality_is_an_equivalence = (
  λ d. (same_Decides d d).1 refl,
  λ d e h. (same_Decides e d).1 (sym ((same_Decides d e).0 h)),
  λ d e f h k. (same_Decides d f).1 ((same_Decides d e).0 h ∙ (same_Decides e f).0 k),
)

pub equal_values_hash_alike : EqualValuesHashAlike
equal_values_hash_alike d e h = same_digest d e h

pub order_is_total : OrderIsTotal
order_is_total = (order_total.antisymm, order_total.trans, λ d e. (λ h. (Equal-is (order d e)).1 h, λ h. (Equal-is (order d e)).0 h))

pub kinds_are_ranked : KindsAreRanked
kinds_are_ranked d e h = ap (λ o. ordering_then o (order_within d e)) (sym (nat_cmp_is (rank d) (rank e) Less h))

pub scalars_are_ordered : ScalarsAreOrdered
scalars_are_ordered = (refl, λ x y. (λ h. int_ranked x y Less (sym h), λ h. sym (int_cmp_is x y Less h)), λ s t. refl)

pub same_itself : (d : Datum) → same d d ≡ true
same_itself d = (same_Decides d d).1 refl

longer_is_more : (ds : List Datum) (e : Datum) (es : List Datum) → order (array_of ds) (array_of (ds ++ e ∷ es)) ≡ Less
longer_is_more [] e es = refl
longer_is_more (d ∷ ds) e es = ap (λ o. ordering_then o (items_order (items_of ds) (items_of (ds ++ e ∷ es)))) (tied_itself order_total d) ∙ longer_is_more ds e es

decided : (o then_on : Ordering) → is_eq o ≡ false → ordering_then o then_on ≡ o
decided Less then_on h = refl
decided Equal then_on h = cc
decided Greater then_on h = refl

place_decides : (start : List Datum) (d e : Datum) (ds es : List Datum) → same d e ≡ false → order (array_of (start ++ d ∷ ds)) (array_of (start ++ e ∷ es)) ≡ order d e
place_decides [] d e ds es h = decided (order d e) (items_order (items_of ds) (items_of es)) h
place_decides (s ∷ start) d e ds es h =
    ap (λ o. ordering_then o (items_order (items_of (start ++ d ∷ ds)) (items_of (start ++ e ∷ es)))) (tied_itself order_total s) ∙ place_decides start d e ds es h

pub first_unequal_place_decides : FirstUnequalPlaceDecides
first_unequal_place_decides = (longer_is_more, place_decides)

unequal_first : (o then_on : Ordering) → (o ≡ Equal → ⊥) → ordering_then o then_on ≡ o
unequal_first Less then_on h = refl
unequal_first Equal then_on h = absurd (h refl)
unequal_first Greater then_on h = refl

pub maps_go_pair_by_pair : MapsGoPairByPair
maps_go_pair_by_pair = (
  λ k l d e ms ns h. unequal_first (slice_cmp nat_cmp k l) (ordering_then (order d e) (pairs_order ms ns)) h,
  λ k d e ms ns h. ap (λ o. ordering_then o (ordering_then (order d e) (pairs_order ms ns))) (tied_itself nat_list_cmp_total k) ∙ decided (order d e) (pairs_order ms ns) h,
  λ k d ms ns. ap (λ o. ordering_then o (ordering_then (order d d) (pairs_order ms ns))) (tied_itself nat_list_cmp_total k) ∙ ap (λ o. ordering_then o (pairs_order ms ns)) (tied_itself order_total d),
)

-- ---- the order of conditions

unlike : (d e : Datum) → (rank d ≡ rank e → ⊥) → compare d e ≡ None
unlike nil _ h = refl
unlike (truth a) (truth b) h = absurd (h refl)
unlike (truth a) _ h = refl
unlike (number x) (number y) h = absurd (h refl)
unlike (number x) _ h = refl
unlike (text s) (text t) h = absurd (h refl)
unlike (text s) _ h = refl
unlike (array ds) (array es) h = absurd (h refl)
unlike (array ds) _ h = refl
unlike (object ms) (object ns) h = absurd (h refl)
unlike (object ms) _ h = refl

pub compare_without_answer : CompareWithoutAnswer
compare_without_answer = (refl, λ d e h. (unlike d e (λ k. absurd (omega (arith, h, k))), unlike e d (λ k. absurd (omega (arith, h, k)))))

mutual
  items_themselves : (ds : Items) → items_compare ds ds ≡ Some Equal
  items_themselves no_items = refl
  items_themselves (item d ds) = rw (same_itself d) (items_themselves ds)

  pairs_themselves : (ms : Pairs) → pairs_compare ms ms ≡ Some Equal
  pairs_themselves no_pairs = refl
  pairs_themselves (pair k d ms) = rw (tied_itself nat_list_cmp_total k, same_itself d) (pairs_themselves ms)

with_itself : (d : Datum) (o : Ordering) → compare d d ≡ Some o → o ≡ Equal
with_itself nil o h = cc
with_itself (truth false) o h = cc
with_itself (truth true) o h = cc
with_itself (number x) o h = let e : int_cmp x x ≡ Equal = tied_itself order_total (number x) in cc
with_itself (text s) o h = let e : slice_cmp nat_cmp s s ≡ Equal = tied_itself order_total (text s) in cc
with_itself (array ds) o h = let e = items_themselves ds in cc
with_itself (object ms) o h = let e = pairs_themselves ms in cc

same_keys : (k l : List ℕ) → slice_cmp nat_cmp k l ≡ Equal → k ≡ l
same_keys k l h = (bytes_eq-Decides k l).0 (sym (is_eq-slice_cmp k l) ∙ ap is_eq h)

-- equal keys, and the rest decides
through_keys : (o : Ordering) (rest : Option Ordering) → by_key o rest ≡ Some Equal → (o ≡ Equal) × (rest ≡ Some Equal)
through_keys Less rest h = cc
through_keys Equal rest h = (refl, h)
through_keys Greater rest h = cc

-- an unequal place never answers `Equal`
through_place : (d e : Datum) (b : Bool) (rest here : Option Ordering) → same d e ≡ b → (here ≡ Some Equal → d ≡ e) → cond b rest here ≡ Some Equal → (d ≡ e) × (rest ≡ Some Equal)
through_place d e true rest here is equal h = ((same_Decides d e).0 is, h)
through_place d e false rest here is equal h = let k : same d e ≡ true = (same_Decides d e).1 (equal h) in cc

mutual
  compare_equal : (d e : Datum) → compare d e ≡ Some Equal → d ≡ e
  compare_equal nil _ h = cc
  compare_equal (truth a) (truth b) h = order_same (truth a) (truth b) (cc)
  compare_equal (truth a) _ h = cc
  compare_equal (number x) (number y) h = order_same (number x) (number y) (cc)
  compare_equal (number x) _ h = cc
  compare_equal (text s) (text t) h = order_same (text s) (text t) (cc)
  compare_equal (text s) _ h = cc
  compare_equal (array ds) (array es) h = ap array (items_compare_equal ds es h)
  compare_equal (array ds) _ h = cc
  compare_equal (object ms) (object ns) h = ap object (pairs_compare_equal ms ns h)
  compare_equal (object ms) _ h = cc

  items_compare_equal : (ds es : Items) → items_compare ds es ≡ Some Equal → ds ≡ es
  items_compare_equal no_items no_items h = refl
  items_compare_equal no_items (item e es) h = cc
  items_compare_equal (item d ds) no_items h = cc
  items_compare_equal (item d ds) (item e es) h =
      let p = through_place d e (same d e) (items_compare ds es) (compare d e) refl (compare_equal d e) h in
      ap (λ x. item x ds) p.0 ∙ ap (item e) (items_compare_equal ds es p.1)

  pairs_compare_equal : (ms ns : Pairs) → pairs_compare ms ns ≡ Some Equal → ms ≡ ns
  pairs_compare_equal no_pairs no_pairs h = refl
  pairs_compare_equal no_pairs (pair l e ns) h = cc
  pairs_compare_equal (pair k d ms) no_pairs h = cc
  pairs_compare_equal (pair k d ms) (pair l e ns) h =
      let p = through_keys (slice_cmp nat_cmp k l) (cond (same d e) (pairs_compare ms ns) (compare d e)) h in
      let q = through_place d e (same d e) (pairs_compare ms ns) (compare d e) refl (compare_equal d e) p.1 in
      ap (λ x. pair x d ms) (same_keys k l p.0) ∙ ap (λ x. pair l x ms) q.0 ∙ ap (pair l e) (pairs_compare_equal ms ns q.1)

pub compare_agrees_with_equality : CompareAgreesWithEquality
compare_agrees_with_equality d e o h = (λ k. compare_equal d e (h ∙ ap Some k), λ k. with_itself d o (ap (compare d) k ∙ h))

longer_compares : (ds : List Datum) (e : Datum) (es : List Datum) → compare (array_of ds) (array_of (ds ++ e ∷ es)) ≡ Some Less
longer_compares [] e es = refl
longer_compares (d ∷ ds) e es = rw (same_itself d) (longer_compares ds e es)

place_compares : (start : List Datum) (d e : Datum) (ds es : List Datum) → same d e ≡ false → compare (array_of (start ++ d ∷ ds)) (array_of (start ++ e ∷ es)) ≡ compare d e
place_compares [] d e ds es h = ap (λ b. cond b (items_compare (items_of ds) (items_of es)) (compare d e)) h
place_compares (s ∷ start) d e ds es h = rw (same_itself s) (place_compares start d e ds es h)

pub compare_by_first_unequal_place : CompareByFirstUnequalPlace
compare_by_first_unequal_place = (longer_compares, place_compares)

by_unequal_key : (o : Ordering) (rest : Option Ordering) → (o ≡ Equal → ⊥) → by_key o rest ≡ Some o
by_unequal_key Less rest h = refl
by_unequal_key Equal rest h = absurd (h refl)
by_unequal_key Greater rest h = refl

pub compare_pair_by_pair : ComparePairByPair
compare_pair_by_pair = (
  λ k l d e ms ns h. by_unequal_key (slice_cmp nat_cmp k l) (cond (same d e) (pairs_compare ms ns) (compare d e)) h,
  λ k d e ms ns h. ap (λ o. by_key o (cond (same d e) (pairs_compare ms ns) (compare d e))) (tied_itself nat_list_cmp_total k) ∙ ap (λ b. cond b (pairs_compare ms ns) (compare d e)) h,
  λ k d ms ns. ap (λ o. by_key o (cond (same d d) (pairs_compare ms ns) (compare d d))) (tied_itself nat_list_cmp_total k) ∙ ap (λ b. cond b (pairs_compare ms ns) (compare d d)) (same_itself d),
)

-- ---- texts and paths

pub list_text_is_item_texts : ListTextIsItemTexts
list_text_is_item_texts [] = refl
list_text_is_item_texts (d ∷ ds) = ap (λ t. text_of d ++ t) (list_text_is_item_texts ds)

pub number_text_is_whole : NumberTextIsRead
number_text_is_whole z f = sym (number_text_is_read z f)

pub find_goes_on : FindGoesOn
find_goes_on = (λ d. refl, on)
  where
    by_step : (o : Option Datum) (path more : List Datum) → ((n : Datum) → find n (path ++ more) ≡ option_and_then (λ e. find e more) (find n path))
        → option_and_then (λ n. find n (path ++ more)) o ≡ option_and_then (λ e. find e more) (option_and_then (λ n. find n path) o)
    by_step None path more h = refl
    by_step (Some n) path more h = h n

    on : (d : Datum) (path more : List Datum) → find d (path ++ more) ≡ option_and_then (λ e. find e more) (find d path)
    on d [] more = refl
    on d (s ∷ path) more = by_step (step d s) path more (λ n. on n path more)

pub put_is_found : PutIsFound
put_is_found = (value_at_put, value_at_put_other)

pub scalars_alone_find : ScalarsAloneFind
scalars_alone_find = (λ d s h. rw h refl, from_nil)
  where
    from_nil : (s : Datum) → step nil s ≡ None
    from_nil nil = refl
    from_nil (truth b) = refl
    from_nil (number z) = refl
    from_nil (text t) = refl
    from_nil (array ds) = refl
    from_nil (object ms) = refl

len_of : (ds : List Datum) → items_len (items_of ds) ≡ length ds
len_of [] = refl
len_of (d ∷ ds) = ap suc (len_of ds)

at_index : (ds : List Datum) (k : ℕ) → item_at k (items_of ds) ≡ slice_get ds k
at_index [] k = refl
at_index (d ∷ ds) zero = refl
at_index (d ∷ ds) (suc k) = at_index ds k

within_back : (ds : List Datum) (n m : ℕ) → n ≡ length ds → suc m ≤ n → cond (nat_le (suc m) n) (item_at (n - suc m) (items_of ds)) None ≡ slice_get ds (length ds - (m + 1))
within_back ds n m e h =
    let t : nat_le (suc m) n ≡ true = search rules in
    rw t (at_index ds (n - suc m) ∙ ap (slice_get ds) (omega arith))

past_back : (ds : List Datum) (n m : ℕ) → n ≤ m → cond (nat_le (suc m) n) (item_at (n - suc m) (items_of ds)) None ≡ None
past_back ds n m h = let t : nat_le (suc m) n ≡ false = grind (arith, nat_tests) in rw t refl

from_end : (ds : List Datum) (k : ℕ) → k < length ds → step (array_of ds) (number (negsuc k)) ≡ slice_get ds (length ds - (k + 1))
from_end ds k h = within_back ds (items_len (items_of ds)) k (len_of ds) (omega (arith, len_of ds))

pub items_by_index : ItemsByIndex
items_by_index = (at_index, from_end, λ ds k h. past_back ds (items_len (items_of ds)) k (omega (arith, len_of ds)))

pub texts_index_too : TextsIndexToo
texts_index_too ds s z h = ap (λ o. item_step o s (items_of ds)) h

last_one : (ds : List Datum) (d : Datum) → slice_get (ds ++ d ∷ []) (length ds) ≡ Some d
last_one [] d = refl
last_one (e ∷ ds) d = last_one ds d

named_last : (ds : List Datum) (d : Datum) → step (array_of (ds ++ d ∷ [])) (text (codes "last")) ≡ Some d
named_last ds d =
    from_end (ds ++ d ∷ []) 0 (omega (arith, length_push ds d)) ∙ ap (slice_get (ds ++ d ∷ [])) (omega (arith, length_push ds d)) ∙ last_one ds d

pub items_by_name : ItemsByName
items_by_name = (λ d ds. refl, named_last, λ ds. ap (λ n. Some (counted n)) (len_of ds))

pub own_keys_win : OwnKeysWin
own_keys_win ms s d h k = rw (h, k) refl
