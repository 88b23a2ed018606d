-- The items that a window asks for, place by place.
use Rattle.std.proofs.Common.{◌≡◌, ℕ, zero, suc, ◌+◌, ◌-◌, ◌<◌, Bool, true, false, cond, List, length, reverse, get_or, slice_get, Some, refl, sym, ap, ◌∙◌, subst, arith}
use Rattle.std.proofs.lemmas.List.{get_or-reverse, length-reverse}
use Rattle.std.proofs.lemmas.Option.{slice_get-get_or}
use Rattle.liquid_model.specs.Data.{Datum, nil}
use Rattle.liquid_core.specs.Places.{place_of}
use Rattle.liquid_evaluation.specs.Evaluation.{count_to, numbers_from, skipped, selected_count, items_in_window}
use Rattle.liquid_evaluation.specs.Laws.{AreItemsByPlace, WindowByPlace, CountedWindow}
use Rattle.liquid_evaluation.proofs.Ranges.{numbers_count, number_by_place}

pub items_count : (ds : List Datum) (o m : ℕ) → length (items_in_window ds o m) ≡ m
items_count ds o zero = refl
items_count ds o (suc m) = ap suc (items_count ds (suc o) m)

pub items_place : (ds : List Datum) (o m k : ℕ) → k < m → slice_get (items_in_window ds o m) k ≡ Some (get_or ds (o + k) nil)
items_place ds o zero k h = absurd (omega arith)
items_place ds o (suc m) zero h = ap (λ i. Some (get_or ds i nil)) (let e : o ≡ o + 0 = omega arith in e)
items_place ds o (suc m) (suc k) h = items_place ds (suc o) m k (omega arith) ∙ ap (λ i. Some (get_or ds i nil)) (let e : suc o + k ≡ o + suc k = omega arith in e)

item_place : (ds : List Datum) (o m k : ℕ) → k < m → get_or (items_in_window ds o m) k nil ≡ get_or ds (o + k) nil
item_place ds o zero k h = absurd (omega arith)
item_place ds o (suc m) zero h = ap (λ i. get_or ds i nil) (let e : o ≡ o + 0 = omega arith in e)
item_place ds o (suc m) (suc k) h = item_place ds (suc o) m k (omega arith) ∙ ap (λ i. get_or ds i nil) (let e : suc o + k ≡ o + suc k = omega arith in e)

placed : (ds : List Datum) (o m : ℕ) (reversed : Bool) → AreItemsByPlace (cond reversed (reverse (items_in_window ds o m)) (items_in_window ds o m)) m (λ k. get_or ds (place_of reversed o m k) nil)
placed ds o m false = record { count = items_count ds o m; each = items_place ds o m }
placed ds o m true = record { count = turned_count; each = each }
  where
    turned_count : length (reverse (items_in_window ds o m)) ≡ m
    turned_count = length-reverse (items_in_window ds o m) ∙ items_count ds o m

    each : (k : ℕ) → k < m → slice_get (reverse (items_in_window ds o m)) k ≡ Some (get_or ds (o + (m - k - 1)) nil)
    each k h =
        let within : k < length (items_in_window ds o m) = subst (λ n. k < n) (sym (items_count ds o m)) h in
        slice_get-get_or (reverse (items_in_window ds o m)) k nil (subst (λ n. k < n) (sym turned_count) h)
        ∙ ap Some (get_or-reverse (items_in_window ds o m) k nil within
        ∙ ap (λ n. get_or (items_in_window ds o m) (n - 1 - k) nil) (items_count ds o m)
        ∙ ap (λ n. get_or (items_in_window ds o m) n nil) (let e : m - 1 - k ≡ m - k - 1 = omega arith in e)
        ∙ item_place ds o m (m - k - 1) (omega arith))

pub window_by_place : WindowByPlace
window_by_place ds limit offset reversed = placed ds (skipped (length ds) offset) (selected_count (length ds) (skipped (length ds) offset) limit) reversed

pub counted_window : CountedWindow
counted_window a b limit offset reversed =
    let n : length (numbers_from a (count_to a b)) ≡ count_to a b = numbers_count a (count_to a b) in
    let all = window_by_place (numbers_from a (count_to a b)) limit offset reversed in
    record {
      count = all.count ∙ ap (λ k. selected_count k (skipped k offset) limit) n;
      each = λ k h.
          all.each k (subst (λ l. k < selected_count l (skipped l offset) limit) (sym n) h)
          ∙ ap (λ l. Some (get_or (numbers_from a (count_to a b)) (place_of reversed (skipped l offset) (selected_count l (skipped l offset) limit) k) nil)) n
          ∙ ap Some (sym (number_by_place a b (place_of reversed (skipped (count_to a b) offset) (selected_count (count_to a b) (skipped (count_to a b) offset) limit) k)));
    }
