-- A value, level by level, and a map beside the pairs that it stands for.
use Rattle.std.proofs.Common.{◌≡◌, ℕ, zero, suc, List, [], ◌∷◌, ◌++◌, length, String, Vec, BTreeMap, Global, Ordering, Less, Equal, Greater, string_bytes, string_cmp, nat_cmp, Bool, true, false, nat_eq, bytes_eq, cond, is_eq, ◌<◌, ◌≤◌, get_or, Option, Some, None, option_map, Bor, refl, sym, ap, ◌∙◌, arith, rules}
use Rattle.std.proofs.lemmas.Cmp.{nat_list_cmp_total}
use Rattle.std.specs.Cmp.Lexicographic.{slice_cmp}
use Rattle.std.specs.List.{AllByRecursion}
use Rattle.std.specs.List.Sorted.{IsStrictlySortedBy}
use Rattle.std.specs.Map.{keys_of, lookup}
use Rattle.std.specs.Ordering.{match_ordering, ordering_reverse}
use Rattle.std.specs.BTreeMap.{insert_entry, is_at}
use Rattle.std.proofs.lemmas.Map.Text.{is_eq-slice_cmp}
use Rattle.liquid_model.specs.Find.{item_at, value_at}
use Rattle.liquid_model.specs.Data.{Datum, text, array, object, pair, put, is_default_datum}
use Rattle.std.proofs.Common.{map}
use Rattle.liquid_model.specs.Lists.{list_of}
use Rattle.liquid_model.specs.Digest.{items_len, pairs_len}
use Rattle.liquid_model.specs.View.{view, items_view, pairs_view}
use Rattle.liquid_model.specs.declared.value.Value.{Value, Text, Array, Object, the_lemmas}

abbrev pub Entry : Type 0
Entry = String Global × Value

pub view-Array : (v : Vec Value Global) → view (Array v) ≡ array (items_view v.items)
view-Array v = search (rules, the_lemmas)

pub view-Text : (s : String Global) → view (Text s) ≡ text (string_bytes s)
view-Text s = search (rules, the_lemmas)

pub view-Object : (m : BTreeMap (String Global) Value) → view (Object m) ≡ object (pairs_view m.entries)
view-Object m = search (rules, the_lemmas)

pub empty_items : (vs : List Value) → nat_eq (length vs) 0 ≡ is_default_datum (array (items_view vs))
empty_items [] = refl
empty_items (v ∷ vs) = search rules

pub empty_pairs : (ms : List Entry) → nat_eq (length ms) 0 ≡ is_default_datum (object (pairs_view ms))
empty_pairs [] = refl
empty_pairs (m ∷ ms) = search rules

pairs_view-match_ordering : (o : Ordering) (a b c : List Entry) → pairs_view (match_ordering o a b c) ≡ match_ordering o (pairs_view a) (pairs_view b) (pairs_view c)
pairs_view-match_ordering Less a b c = refl
pairs_view-match_ordering Equal a b c = refl
pairs_view-match_ordering Greater a b c = refl

pub pairs_view-insert_entry : (es : List Entry) (k : String Global) (v : Value) → pairs_view (insert_entry string_cmp es k v) ≡ put (string_bytes k) (view v) (pairs_view es)
pairs_view-insert_entry [] k v = refl
pairs_view-insert_entry (e ∷ es) k v = pairs_view-match_ordering (string_cmp k e.0) _ _ _ ∙ rw (pairs_view-insert_entry es k v)

below_middle : (first : Entry) (es : List Entry) (e : Entry) (more : List Entry) → AllByRecursion (λ y. string_cmp first.0 y ≡ Less) (keys_of (es ++ e ∷ more)) → string_cmp first.0 e.0 ≡ Less
below_middle first [] e more h = h.0
below_middle first (x ∷ es) e more h = below_middle first es e more h.1

-- a key that is above those before it goes last
pub put_last : (done : List Entry) (e : Entry) (more : List Entry) → IsStrictlySortedBy string_cmp (keys_of (done ++ e ∷ more))
    → put (string_bytes e.0) (view e.1) (pairs_view done) ≡ pairs_view (done ++ e ∷ [])
unfolding IsStrictlySortedBy
put_last [] e more h = refl
put_last (first ∷ done) e more h =
    let above : slice_cmp nat_cmp (string_bytes e.0) (string_bytes first.0) ≡ Greater =
    nat_list_cmp_total.antisymm (string_bytes e.0) (string_bytes first.0) ∙ ap ordering_reverse (below_middle first done e more h.0) in
    rw above (ap (pair (string_bytes first.0) (view first.1)) (put_last done e more h.1))

pub items_len_view : (vs : List Value) → items_len (items_view vs) ≡ length vs
items_len_view [] = refl
items_len_view (v ∷ vs) = ap suc (items_len_view vs)

pub pairs_len_view : (ms : List Entry) → pairs_len (pairs_view ms) ≡ length ms
pairs_len_view [] = refl
pairs_len_view (m ∷ ms) = ap suc (pairs_len_view ms)

pub item_at_within : (vs : List Value) (i : ℕ) (d : Value) → i < length vs → Some (view (get_or vs i d)) ≡ item_at i (items_view vs)
item_at_within [] i d h = absurd (omega arith)
item_at_within (v ∷ vs) zero d h = refl
item_at_within (v ∷ vs) (suc i) d h = item_at_within vs i d (omega arith)

pub item_at_past : (vs : List Value) (i : ℕ) → length vs ≤ i → None ≡ item_at i (items_view vs)
item_at_past [] i h = refl
item_at_past (v ∷ vs) zero h = absurd (omega arith)
item_at_past (v ∷ vs) (suc i) h = item_at_past vs i (omega arith)

pub view_of_ref : (r : Option (Bor Value)) → option_map (λ x. view x.now) r ≡ option_map view (option_map (λ x. x.now) r)
view_of_ref None = refl
view_of_ref (Some x) = refl

found_or : (b c : Bool) (v : Value) (rest : Option Value) (d : Option Datum) → b ≡ c → option_map view rest ≡ d → option_map view (cond b (Some v) rest) ≡ cond c (Some (view v)) d
found_or true c v rest d e h = rw (sym e) refl
found_or false c v rest d e h = rw (sym e) h

pub view-lookup : (name : List ℕ) (es : List Entry) → option_map view (lookup (is_at (λ k. slice_cmp nat_cmp name (string_bytes k))) es) ≡ value_at name (pairs_view es)
view-lookup name [] = refl
view-lookup name (e ∷ es) = found_or (is_eq (slice_cmp nat_cmp name (string_bytes e.0))) (bytes_eq name (string_bytes e.0)) e.1 _ _ (is_eq-slice_cmp name (string_bytes e.0)) (view-lookup name es)

pub list_of_view : (vs : List Value) → list_of (items_view vs) ≡ map view vs
list_of_view [] = refl
list_of_view (v ∷ vs) = ap (λ l. view v ∷ l) (list_of_view vs)

pub items_length : (vs : List Value) → length (list_of (items_view vs)) ≡ length vs
items_length [] = refl
items_length (v ∷ vs) = ap suc (items_length vs)
