-- A reader that skips what nobody asks for.
use Rattle.std.specs.Prelude.{◌≡◌, ℕ, suc, Bool, true, false, cond, Option, Some, None, bytes_eq}
use Rattle.std.specs.declared.cmp.Ordering.{Ordering}
use Rattle.std.specs.declared.cmp.Ordering.TheVariants.{Less, Equal, Greater}
use Rattle.std.specs.Ordering.{nat_cmp, match_ordering, is_eq}
use Rattle.std.proofs.lemmas.Map.Text.{is_eq-slice_cmp}
use Rattle.std.specs.Cmp.Lexicographic.{slice_cmp, bytes_decides}
use mathlib.Core.Path.{refl, sym, ap, subst, subst₂, ◌∙◌}
use Rattle.liquid_model.specs.Texts.{Text}
use Rattle.liquid_model.specs.Data.{array, object, no_items, item, Pairs, no_pairs, pair, put, text}
use Rattle.liquid_model.specs.Digest.{pairs_len}
use Rattle.liquid_model.specs.Find.{value_at}
use Rattle.liquid_model.specs.Lists.{pair_lists}
use Rattle.liquid_model.proofs.Maps.{value_at_put, value_at_put_other}
use Rattle.liquid_model.specs.Uses.{Use, Fields, ItemUse, uncounted, up_to, Alike, AlikeItems, asks_whether}
use Rattle.liquid_model.specs.Projected.{use_of_key, second_wanted, values_wanted, pairs_wanted, asks_length}
use Rattle.liquid_model.specs.Skipping.{AlikeKeys, SameKeys, PutInBoth, PutInOne, PutAtSameKey, MapWithAllKeys, MapWithSomeKeys, ListWithAllItems, ListWithoutItems}
use Rattle.liquid_model.proofs.Alike.{AlikeLists, alike_same, join_left, join_right, up_to_all}
use Rattle.liquid_model.proofs.AlikeLists.{items_alike}
use Rattle.liquid_model.proofs.Projected.{unasked, fields_of_maps, fields_unseen, pair_alike}

pub put_in_both : PutInBoth
put_in_both W ps qs k c d a h key = at (bytes_eq key k) refl
  where
    at : (b : Bool) → bytes_eq key k ≡ b → Alike (W key) (value_at key (put k c ps)) (value_at key (put k d qs))
    at true e = subst (λ q. Alike (W q) (value_at q (put k c ps)) (value_at q (put k d qs))) (sym ((bytes_decides key k).0 e))
        (subst₂ (Alike (W k)) (sym (value_at_put k c ps)) (sym (value_at_put k d qs)) h)
    at false e =
        let other : key ≡ k → ⊥ = λ is. absurd (differs e ((bytes_decides key k).1 is)) in
        subst₂ (Alike (W key)) (sym (value_at_put_other key k c ps other)) (sym (value_at_put_other key k d qs other)) (a key)
      where
        differs : bytes_eq key k ≡ false → bytes_eq key k ≡ true → ⊥
        differs e f = absurd cc

pub put_in_one : PutInOne
put_in_one W ps qs k c a none key = at (bytes_eq key k) refl
  where
    differs : bytes_eq key k ≡ false → bytes_eq key k ≡ true → ⊥
    differs e f = absurd cc

    at : (b : Bool) → bytes_eq key k ≡ b → Alike (W key) (value_at key (put k c ps)) (value_at key qs)
    at true e = unasked (W key) _ _ (ap (λ q. asks_whether (W q)) ((bytes_decides key k).0 e) ∙ none)
    at false e = subst (λ o. Alike (W key) o (value_at key qs)) (sym (value_at_put_other key k c ps (λ is. differs e ((bytes_decides key k).1 is)))) (a key)

pub put_at_same_key : PutAtSameKey
put_at_same_key W no_pairs no_pairs k c d a h = (refl, (h, tt))
put_at_same_key W no_pairs (pair l y qs) k c d a h = absurd a
put_at_same_key W (pair l x ps) no_pairs k c d a h = absurd a
put_at_same_key W (pair l x ps) (pair m y qs) k c d a h =
    subst (λ n. SameKeys W (match_ordering (slice_cmp nat_cmp k l) (pair k c (pair l x ps)) (pair l c ps) (pair l x (put k c ps)))
    (match_ordering (slice_cmp nat_cmp k n) (pair k d (pair n y qs)) (pair n d qs) (pair n y (put k d qs)))) a.0 (at (slice_cmp nat_cmp k l) refl (put_at_same_key W ps qs k c d a.1.1 h))
  where
    at : (o : Ordering) → slice_cmp nat_cmp k l ≡ o → SameKeys W (put k c ps) (put k d qs)
        → SameKeys W (match_ordering o (pair k c (pair l x ps)) (pair l c ps) (pair l x (put k c ps))) (match_ordering o (pair k d (pair l y qs)) (pair l d qs) (pair l y (put k d qs)))
    at Less is rest = (refl, (h, (refl, (a.1.0, a.1.1))))
    at Equal is rest = (refl, (subst (λ q. Alike (W q) (Some c) (Some d)) ((bytes_decides k l).0 (sym (is_eq-slice_cmp k l) ∙ ap is_eq is)) h, a.1.1))
    at Greater is rest = (refl, (a.1.0, rest))

keys_of_same : (W : Text → Use) (ps qs : Pairs) → SameKeys W ps qs → AlikeKeys W ps qs
keys_of_same W no_pairs no_pairs a key = alike_same (W key) None
keys_of_same W no_pairs (pair l d qs) a key = absurd a
keys_of_same W (pair k c ps) no_pairs a key = absurd a
keys_of_same W (pair k c ps) (pair l d qs) a key =
    subst (λ m. Alike (W key) (value_at key (pair k c ps)) (value_at key (pair m d qs))) a.0 (at (bytes_eq key k) refl (keys_of_same W ps qs a.1.1 key))
  where
    at : (b : Bool) → bytes_eq key k ≡ b → Alike (W key) (value_at key ps) (value_at key qs) → Alike (W key) (cond (bytes_eq key k) (Some c) (value_at key ps)) (cond (bytes_eq key k) (Some d) (value_at key qs))
    at true e rest = subst (λ b. Alike (W key) (cond b (Some c) (value_at key ps)) (cond b (Some d) (value_at key qs))) (sym e) (subst (λ q. Alike (W q) (Some c) (Some d)) (sym ((bytes_decides key k).0 e)) a.1.0)
    at false e rest = subst (λ b. Alike (W key) (cond b (Some c) (value_at key ps)) (cond b (Some d) (value_at key qs))) (sym e) rest

lengths_of_same : (W : Text → Use) (ps qs : Pairs) → SameKeys W ps qs → pairs_len ps ≡ pairs_len qs
lengths_of_same W no_pairs no_pairs a = refl
lengths_of_same W no_pairs (pair l d qs) a = absurd a
lengths_of_same W (pair k c ps) no_pairs a = absurd a
lengths_of_same W (pair k c ps) (pair l d qs) a = ap suc (lengths_of_same W ps qs a.1.1)

each_of_same : (members : Fields) (n : Option ℕ) (u : Use) (ps qs : Pairs) → SameKeys (pairs_wanted members (up_to n u)) ps qs → AlikeLists u (pair_lists ps) (pair_lists qs)
each_of_same members n u no_pairs no_pairs a = tt
each_of_same members n u no_pairs (pair l d qs) a = absurd a
each_of_same members n u (pair k c ps) no_pairs a = absurd a
each_of_same members n u (pair k c ps) (pair l d qs) a = (
  subst (λ m. Alike u (Some (array (item (text k) (item c no_items)))) (Some (array (item (text m) (item d no_items))))) a.0
      (pair_alike u k c d (join_right (use_of_key k members) (second_wanted u) (Some c) (Some d) a.1.0)),
  each_of_same members n u ps qs a.1.1,
)

turns_of_same : (members : Fields) (turns : ItemUse) (ps qs : Pairs) → SameKeys (pairs_wanted members turns) ps qs → AlikeItems turns (Some (object ps)) (Some (object qs))
turns_of_same members uncounted ps qs a = tt
turns_of_same members (up_to n u) ps qs a = up_to_all _ n (pair_lists ps) (pair_lists qs) (each_of_same members n u ps qs a)

pub map_with_all_keys : MapWithAllKeys
map_with_all_keys members turns ps qs a = (
  refl,
  (
    fields_of_maps (pairs_wanted members turns) ps qs (keys_of_same (pairs_wanted members turns) ps qs a) members (λ e. lengths_of_same (pairs_wanted members turns) ps qs a)
        (λ key o p h. join_left (use_of_key key members) (values_wanted turns) o p h),
    turns_of_same members turns ps qs a,
  ),
)

pub map_with_some_keys : MapWithSomeKeys
map_with_some_keys members (up_to n u) ps qs none a = absurd cc
map_with_some_keys members uncounted ps qs none a = (
  refl,
  (
    fields_of_maps (pairs_wanted members uncounted) ps qs a members (λ e. absurd (clash e))
        (λ key o p h. join_left (use_of_key key members) (values_wanted uncounted) o p h),
    tt,
  ),
)
  where
    clash : asks_length members ≡ true → ⊥
    clash e = absurd cc

pub list_with_all_items : ListWithAllItems
list_with_all_items u ds es a = items_alike u ds es a

pub list_without_items : ListWithoutItems
list_without_items members ds none = (refl, (fields_unseen ds no_items members none, tt))
