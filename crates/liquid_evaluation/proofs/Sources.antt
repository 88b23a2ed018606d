-- What a source is, before its items are taken.
use Rattle.std.proofs.Common.{◌≡◌, ℕ, ℤ, Bool, true, false, cond, nat_le, List, [], length, get_or, Result, Ok, Err, refl, sym, ap, ◌∙◌}
use Rattle.liquid_model.specs.Data.{Datum, nil, truth, number, text, array, object}
use Rattle.liquid_model.specs.Lists.{list_of, pair_lists}
use Rattle.liquid_model.specs.Fallible.{◌>>=◌}
use Rattle.liquid_model.specs.declared.error.ErrorKind.{ErrorKind}
use Rattle.liquid_model.specs.declared.error.ErrorKind.TheVariants.{RangeTooLong}
use Rattle.liquid_core.specs.Expressions.{required, needed_whole}
use Rattle.liquid_evaluation.specs.Tree.{each_of, counted}
use Rattle.liquid_evaluation.specs.Evaluation.{source_items, not_too_long, most_items, count_to, numbers_from}
use Rattle.liquid_evaluation.specs.Ranges.{items_in, between, range_of, range_items, range_item}
use Rattle.liquid_evaluation.specs.Laws.{SourceInTwoSteps, ItemsByPlace}
use Rattle.liquid_evaluation.proofs.Ranges.{number_by_place}

-- a step between two others
regrouped : {A B C : Type 0} (a : Result A ErrorKind) (f : A → B) (g : B → Result C ErrorKind) → (a >>= (λ x. g (f x))) ≡ ((a >>= (λ x. Ok (f x))) >>= g)
regrouped (Ok x) f g = refl
regrouped (Err kind) f g = refl

pub source_in_two_steps : SourceInTwoSteps
unfolding source_items range_of
source_in_two_steps (each_of x) e = regrouped (required x e) items_in range_items
source_in_two_steps (counted first last) e = on (needed_whole first e)
  where
    on : (a : Result ℤ ErrorKind) → (a >>= (λ a. needed_whole last e >>= (λ b. range_items (between a b)))) ≡ ((a >>= (λ a. needed_whole last e >>= (λ b. Ok (between a b)))) >>= range_items)
    on (Ok a) = regrouped (needed_whole last e) (between a) range_items
    on (Err kind) = refl

-- items that aren't refused are all of them
answered : (t : Bool) (ds es : List Datum) → cond t (Ok ds) (Err RangeTooLong) ≡ Ok es → es ≡ ds
answered true ds es h = cc
answered false ds es h = absurd cc

by_place : (n : ℕ) (ds es : List Datum) (item : ℕ → Datum) → ((i : ℕ) → item i ≡ get_or ds i nil) → not_too_long n ds ≡ Ok es → (i : ℕ) → item i ≡ get_or es i nil
by_place n ds es item is h i = is i ∙ ap (λ l. get_or l i nil) (sym (answered (nat_le n most_items) ds es h))

pub items_by_place : ItemsByPlace
items_by_place (between a b) es h i = by_place (count_to a b) (numbers_from a (count_to a b)) es (range_item (between a b)) (number_by_place a b) h i
items_by_place (items_in nil) es h i = by_place 0 [] es (λ i. nil) (λ i. refl) h i
items_by_place (items_in (array ds)) es h i = by_place (length (list_of ds)) (list_of ds) es (λ i. get_or (list_of ds) i nil) (λ i. refl) h i
items_by_place (items_in (object ps)) es h i = by_place (length (pair_lists ps)) (pair_lists ps) es (λ i. get_or (pair_lists ps) i nil) (λ i. refl) h i
items_by_place (items_in (truth b)) es h i = absurd cc
items_by_place (items_in (number z)) es h i = absurd cc
items_by_place (items_in (text s)) es h i = absurd cc
