-- Calls that the table lacks, listed one after another.
use Rattle.std.proofs.Common.{◌≡◌, ℕ, suc, ◌+◌, ◌-◌, ◌<◌, ◌≤◌, List, [], ◌∷◌, ◌++◌, Some, None, Ordering, Less, length, refl, sym, ap, subst, arith}
use Rattle.std.proofs.lemmas.List.{length-append}
use Rattle.std.specs.Prelude.{slice_get}
use Rattle.std.specs.Ordering.{on}
use Rattle.std.specs.List.{AllByRecursion}
use Rattle.std.specs.List.Sorted.{IsStrictlySortedBy}
use Rattle.liquid_model.specs.Data.{array}
use Rattle.liquid_model.specs.Order.{order}
use Rattle.liquid_model.specs.OrderLaws.{order_total}
use Rattle.liquid_model.specs.View.{items_view, view}
use Rattle.liquid_model.specs.declared.value.Value.{Value}
use Rattle.json.specs.Print.{print_from}
use Rattle.liquid_json.specs.JsonTexts.{json_text}
use Rattle.liquid_answers.specs.Lacking.{AreLackingCalls, all_but_last}
use Rattle.liquid_answers.specs.Tables.{answer_at}
use Rattle.liquid_answers.specs.declared.answers.Answers.{Answers}

pub all_snoc : {X : Type 0} (P : X → Type 0) (xs : List X) (x : X) → AllByRecursion P xs → P x → AllByRecursion P (xs ++ x ∷ [])
all_snoc P [] x all is = (is, tt)
all_snoc P (y ∷ ys) x all is = (all.0, all_snoc P ys x all.1 is)

all_last : {X : Type 0} (P : X → Type 0) (xs : List X) (x : X) → AllByRecursion P (xs ++ x ∷ []) → P x
all_last P [] x all = all.0
all_last P (y ∷ ys) x all = all_last P ys x all.1

abbrev by_view : Value → Value → Ordering
by_view = on view order

-- c comes after the last one
abbrev IsAfter : List Value → Value → Type 0
IsAfter cs c = (last : Value) (n : ℕ) → length cs ≡ suc n → slice_get cs n ≡ Some last → by_view last c ≡ Less

-- what comes after the last one comes after each
sorted_snoc : (cs : List Value) (c : Value) → IsStrictlySortedBy by_view cs → IsAfter cs c → IsStrictlySortedBy by_view (cs ++ c ∷ [])
unfolding IsStrictlySortedBy
sorted_snoc [] c sorted after = (tt, tt)
sorted_snoc (x ∷ []) c sorted after = ((after x 0 refl refl, tt), (tt, tt))
sorted_snoc (x ∷ y ∷ ys) c sorted after =
    let later = sorted_snoc (y ∷ ys) c sorted.1 (λ last n e is. after last (suc n) (ap suc e) is) in
    let below = all_last (λ z. by_view y z ≡ Less) ys c later.0 in
    (all_snoc (λ z. by_view x z ≡ Less) (y ∷ ys) c sorted.0 (order_total.trans (view x) (view y) (view c) sorted.0.0 below), later)

one_less : (m n : ℕ) → m ≡ suc n → n ≡ m - 1
one_less m n e = omega (arith, e)

less : (n : ℕ) → n < 1000 → n + 1 ≤ 1000
less n h = omega (arith, h)

-- all but the last are those before it
front_snoc : (cs : List Value) (c : Value) → all_but_last (cs ++ c ∷ []) ≡ cs
front_snoc [] c = refl
front_snoc (x ∷ []) c = refl
front_snoc (x ∷ y ∷ ys) c = ap (λ zs. x ∷ zs) (front_snoc (y ∷ ys) c)

-- one more is listed
pub lacking_calls_more : (table : Answers) (cs : List Value) (c : Value) → AreLackingCalls table cs → length cs < 1000 → length (json_text (array (items_view cs))) ≤ 1048576
    → ((last : Value) → slice_get cs (length cs - 1) ≡ Some last → by_view last c ≡ Less) → answer_at table (view c) ≡ None → AreLackingCalls table (cs ++ c ∷ [])
lacking_calls_more table cs c are few short after lacks = record {
  lacking = all_snoc (λ call. answer_at table (view call) ≡ None) cs c are.lacking lacks;
  once = sorted_snoc cs c are.once (λ last n e is. after last (subst (λ m. slice_get cs m ≡ Some last) (one_less (length cs) n e) is));
  few = subst (λ n. n ≤ 1000) (sym (length-append cs (c ∷ []))) (less (length cs) few);
  short = subst (λ front. length (json_text (array (items_view front))) ≤ 1048576) (sym (front_snoc cs c)) short;
}

brackets : 2 ≤ 1048576
brackets = omega arith

-- none is listed
pub lacking_calls_none : (table : Answers) → AreLackingCalls table []
unfolding IsStrictlySortedBy print_from
lacking_calls_none table = record { lacking = tt; once = tt; few = omega arith; short = brackets }
