-- The sort by a key is the one list along which keys never fall, and in which items with one key keep their order.
use Rattle.std.proofs.Common.{◌≡◌, ◌≢◌, Bool, true, false, not, ◌&&◌, cond, List, [], ◌∷◌, map, ap, refl, sym, ◌∙◌}
use Rattle.std.specs.List.{filter}
use Rattle.std.specs.List.Sorted.{ties}
use Rattle.std.specs.Ordering.{is_eq, is_lt, ordering_reverse}
use Rattle.std.specs.declared.cmp.Ordering.{Ordering}
use Rattle.std.specs.declared.cmp.Ordering.TheVariants.{Less, Equal, Greater}
use Rattle.liquid_model.specs.Answer.{IsTheOne}
use Rattle.liquid_model.specs.Data.{Datum}
use Rattle.liquid_model.proofs.Ones.{one}
use Rattle.liquid_filters.specs.Sorting.{Key, key_order, sort_by}
use Rattle.liquid_filters.specs.Sorts.{NeverFall, with_key, IsSort}
use Rattle.liquid_filters.proofs.Keys.{key_order_total, keys_order}
use Rattle.liquid_filters.proofs.Sorts.{Rises, TellsApart, none_through, one_order, sorted_keeps, sorted_rises}

abbrev below : (Datum → Key) → Datum → Datum → Bool
below key d e = is_lt (key_order (key d) (key e))

-- not above is not below the other way
not_above : (r s : Ordering) → r ≡ ordering_reverse s → is_lt s ≡ false → r ≢ Greater
not_above r Less e h g = let u : ⊥ = cc in u
not_above r Equal e h g = let u : ⊥ = cc in u
not_above r Greater e h g = let u : ⊥ = cc in u

not_below : (r s : Ordering) → r ≡ ordering_reverse s → r ≢ Greater → is_lt s ≡ false
not_below r Less e h = absurd (h e)
not_below r Equal e h = refl
not_below r Greater e h = refl

falls : (key : Datum → Key) (ys : List Datum) → Rises (below key) ys → NeverFall (map key ys)
falls key [] r = tt
falls key (y ∷ []) r = tt
falls key (y ∷ z ∷ zs) r = (not_above _ _ (key_order_total.antisymm (key y) (key z)) r.0.0, falls key (z ∷ zs) r.1)

rises : (key : Datum → Key) (ys : List Datum) → NeverFall (map key ys) → Rises (below key) ys
rises key [] n = tt
rises key (y ∷ []) n = (tt, tt)
rises key (y ∷ z ∷ zs) n =
    let r = rises key (z ∷ zs) n.1 in
    let e = not_below _ _ (key_order_total.antisymm (key y) (key z)) n.0 in
    ((e, none_through (below key) (keys_order key) y z zs e r.0), r)

-- one key is not below itself
apart : (key : Datum → Key) (k : Key) → TellsApart (below key) (λ d. is_eq (key_order k (key d)))
apart key k x y h p q =
    let kx : key_order k (key x) ≡ Equal = equal _ p in
    let xy : key_order (key x) (key y) ≡ Equal = sym (key_order_total.congr k (key x) (key y) kx) ∙ equal _ q in
    let yx : key_order (key y) (key x) ≡ Equal = key_order_total.antisymm (key y) (key x) ∙ ap ordering_reverse xy in
    let e : false ≡ true = sym (ap is_lt yx) ∙ h in
    let u : ⊥ = cc in u
  where
    equal : (r : Ordering) → is_eq r ≡ true → r ≡ Equal
    equal Less e = cc
    equal Equal e = refl
    equal Greater e = cc

pub keeps : (key : Datum → Key) (ds : List Datum) (k : Key) → with_key key k (sort_by key ds) ≡ with_key key k ds
keeps key ds k = sorted_keeps (below key) (λ d. is_eq (key_order k (key d))) (apart key k) ds

filter_same : (p q : Datum → Bool) → ((d : Datum) → p d ≡ q d) → (ds : List Datum) → filter p ds ≡ filter q ds
filter_same p q h [] = refl
filter_same p q h (d ∷ ds) = ap (λ b. cond b (d ∷ filter p ds) (filter p ds)) (h d) ∙ ap (λ l. cond (q d) (d ∷ l) l) (filter_same p q h ds)

tie : (r s : Ordering) → s ≡ ordering_reverse r → (not (is_lt r) && not (is_lt s)) ≡ is_eq r
tie Less s e = refl
tie Equal s e = ap (λ o. not (is_lt o)) e
tie Greater s e = ap (λ o. not (is_lt o)) e

tied : (key : Datum → Key) (x : Datum) (ds : List Datum) → filter (ties (below key) x) ds ≡ with_key key (key x) ds
tied key x ds = filter_same _ _ (λ d. tie (key_order (key x) (key d)) (key_order (key d) (key x)) (key_order_total.antisymm (key d) (key x))) ds

only : (key : Datum → Key) (ds out : List Datum) → IsSort key ds out → out ≡ sort_by key ds
only key ds out m = one_order (below key) (keys_order key) out (sort_by key ds) (rises key out m.rise) (sorted_rises (below key) (keys_order key) ds)
    (λ x. tied key x out ∙ m.keep (key x) ∙ sym (keeps key ds (key x)) ∙ sym (tied key x (sort_by key ds)))

pub sort_one : (key : Datum → Key) (ds : List Datum) → IsTheOne (IsSort key ds) (sort_by key ds)
sort_one key ds = one (IsSort key ds) (sort_by key ds)
    (record { rise = falls key (sort_by key ds) (sorted_rises (below key) (keys_order key) ds); keep = keeps key ds })
    (only key ds)
