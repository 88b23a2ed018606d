-- The order of keys is total, and a sort of items beside their keys is the sort of the items by their keys.
use Rattle.std.proofs.Common.{◌≡◌, Bool, List, [], ◌∷◌, map, Some, None, ap, refl, sym, ◌∙◌}
use Rattle.std.specs.Cmp.{IsStrictWeakOrder, IsTotalOrder}
use Rattle.std.specs.Ordering.{is_lt, ordering_reverse}
use Rattle.std.specs.declared.cmp.Ordering.TheVariants.{Less, Equal}
use Rattle.std.proofs.lemmas.List.Sorted.{ranks_by}
use Rattle.liquid_model.specs.Data.{Datum}
use Rattle.liquid_model.specs.OrderLaws.{order_total}
use Rattle.liquid_model.specs.View.{view}
use Rattle.liquid_filters.specs.Keyed.{key_view, keyed_view, keyed_below}
use Rattle.liquid_filters.specs.Sorting.{Key, key_order, sorted, sort_by}
use Rattle.liquid_filters.specs.declared.stdlib.filters.array.sort.Keyed.{Keyed}
use Rattle.liquid_filters.proofs.Sorts.{map_sorted}

turned : (a b : Key) → key_order a b ≡ ordering_reverse (key_order b a)
turned (Some d) (Some e) = order_total.antisymm d e
turned (Some d) None = refl
turned None (Some e) = refl
turned None None = refl

through : (a b c : Key) → key_order a b ≡ Less → key_order b c ≡ Less → key_order a c ≡ Less
through (Some d) (Some e) (Some f) h k = order_total.trans d e f h k
through (Some d) b None h k = refl
through (Some d) None (Some f) h k = cc
through None (Some e) c h k = cc
through None None c h k = cc

alike : (a b c : Key) → key_order a b ≡ Equal → key_order a c ≡ key_order b c
alike (Some d) (Some e) (Some f) h = order_total.congr d e f h
alike (Some d) (Some e) None h = refl
alike (Some d) None c h = cc
alike None (Some e) c h = cc
alike None None c h = refl

pub key_order_total : IsTotalOrder key_order
key_order_total = record { antisymm = turned; trans = through; congr = alike }

pub keys_order : (key : Datum → Key) → IsStrictWeakOrder (λ d e. is_lt (key_order (key d) (key e)))
keys_order key = ranks_by key_order_total key

pub keyed_order : IsStrictWeakOrder keyed_below
keyed_order = ranks_by key_order_total key_view

abbrev pair_below : Key × Datum → Key × Datum → Bool
pair_below p q = is_lt (key_order p.0 q.0)

seconds : (key : Datum → Key) (ds : List Datum) → map (λ (p : Key × Datum). p.1) (map (λ d. (key d, d)) ds) ≡ ds
seconds key [] = refl
seconds key (d ∷ ds) = ap (λ l. d ∷ l) (seconds key ds)

seconds_of : (ks : List Keyed) → map (λ (p : Key × Datum). p.1) (map keyed_view ks) ≡ map (λ k. view k.item.now) ks
seconds_of [] = refl
seconds_of (k ∷ ks) = ap (λ l. view k.item.now ∷ l) (seconds_of ks)

-- the items of a sort by the keys beside them
pub sorted_items : (key : Datum → Key) (ds : List Datum) (ks : List Keyed) → map keyed_view ks ≡ map (λ d. (key d, d)) ds → map (λ k. view k.item.now) (sorted keyed_below ks) ≡ sort_by key ds
sorted_items key ds ks e =
    sym (seconds_of (sorted keyed_below ks))
    ∙ ap (λ l. map (λ (p : Key × Datum). p.1) l) (map_sorted keyed_view pair_below ks ∙ ap (sorted pair_below) e ∙ sym (map_sorted (λ d. (key d, d)) pair_below ds))
    ∙ seconds key (sort_by key ds)
