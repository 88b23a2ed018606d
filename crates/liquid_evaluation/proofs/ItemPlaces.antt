-- The items of a loop: by their place, as they are borrowed, and how many numbers there are.
use Rattle.std.proofs.Common.{◌≡◌, ℕ, nat_le, ℤ, Bool, true, false, cond, List, length, map, get_or, Vec, Global, Ok, Err, refl, sym, ap, ◌∙◌, subst}
use Rattle.std.proofs.lemmas.List.{length-map}
use Rattle.liquid_model.specs.Answer.{Faulted}
use Rattle.liquid_model.specs.Data.{Datum, nil}
use Rattle.liquid_model.specs.Fallible.{◌>>=◌}
use Rattle.liquid_model.specs.View.{view}
use Rattle.liquid_model.specs.declared.error.ErrorKind.{ErrorKind}
use Rattle.liquid_model.specs.declared.error.ErrorKind.TheVariants.{RangeTooLong}
use Rattle.liquid_model.specs.declared.value.Value.{Value}
use Rattle.liquid_model.specs.declared.value.Value.TheVariants.{Array}
use Rattle.liquid_model.proofs.Views.{view-Array, list_of_view}
use Rattle.liquid_core.specs.LoopFrames.{item_of}
use Rattle.liquid_core.specs.declared.frame.Items.{Items}
use Rattle.liquid_core.specs.declared.frame.Items.TheVariants.{Borrowed, Owned, Numbers}
use Rattle.liquid_evaluation.specs.Evaluation.{most_items, not_too_long, count_to, numbers_from}
use Rattle.liquid_evaluation.specs.ItemLists.{all_items}
use Rattle.liquid_evaluation.specs.Ranges.{items_in, between, range_items, checked_count}
use Rattle.liquid_evaluation.proofs.Calls.{faulted_then}
use Rattle.liquid_evaluation.proofs.Ranges.{number_by_place}

pub item_by_place : (items : Items) (i : ℕ) → item_of items i ≡ get_or (all_items items) i nil
item_by_place (Borrowed r) i = refl
item_by_place (Owned v) i = refl
item_by_place (Numbers a b) i = number_by_place a b i

-- ---- a count that is not too great

pub count_is : (n m : ℕ) → checked_count n ≡ Ok m → m ≡ n
count_is n m h = on (nat_le n most_items) h
  where
    on : (t : Bool) → cond t (Ok n) (Err RangeTooLong) ≡ Ok m → m ≡ n
    on true h = cc
    on false h = absurd cc

pub all_fit : (ds : List Datum) (n m : ℕ) → n ≡ length ds → checked_count n ≡ Ok m → not_too_long (length ds) ds ≡ Ok ds
all_fit ds n m e h = ap (λ k. not_too_long k ds) (sym e) ∙ on (nat_le n most_items) h
  where
    on : (t : Bool) → cond t (Ok n) (Err RangeTooLong) ≡ Ok m → cond t (Ok ds) (Err RangeTooLong) ≡ Ok ds
    on true h = refl
    on false h = absurd cc

-- the items, by whether their count is too great
by_count : (t : Bool) (ds : List Datum) (n : ℕ) → (cond t (Ok n) (Err RangeTooLong) >>= (λ _. Ok ds)) ≡ cond t (Ok ds) (Err RangeTooLong)
by_count true ds n = refl
by_count false ds n = refl

pub numbers_refused : (kind : ErrorKind) (a b a' b' : ℤ) (n : ℕ) → a' ≡ a → b' ≡ b → n ≡ count_to a' b' → Faulted kind (checked_count n) → Faulted kind (range_items (between a b))
numbers_refused kind a b a' b' n first last e h =
    let counted : n ≡ count_to a b = e ∙ ap (λ z. count_to z b') first ∙ ap (count_to a) last in
    subst (λ r. Faulted kind r) (by_count (nat_le (count_to a b) most_items) (numbers_from a (count_to a b)) (count_to a b))
    (faulted_then kind (checked_count (count_to a b)) (λ _. Ok (numbers_from a (count_to a b))) (subst (λ k. Faulted kind (checked_count k)) counted h))

pub borrowed_list : (value : Value) (v : Vec Value Global) (xs : List Value) (n m : ℕ) → value ≡ Array v → xs ≡ v.items → n ≡ length v.items → checked_count n ≡ Ok m
    → range_items (items_in (view value)) ≡ Ok (map view xs)
borrowed_list value v xs n m is e counts h =
    ap (λ w. range_items (items_in (view w))) is ∙ ap (λ d. range_items (items_in d)) (view-Array v) ∙ ap (λ ds. not_too_long (length ds) ds) (list_of_view v.items)
    ∙ all_fit (map view v.items) n m (counts ∙ sym (length-map v.items view)) h ∙ ap (λ l. Ok (map view l)) (sym e)
