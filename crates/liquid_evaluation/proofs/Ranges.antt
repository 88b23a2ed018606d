-- How many items a loop's source has, and which they are.
use Rattle.std.proofs.Common.{◌≡◌, ℕ, zero, suc, ◌+◌, ◌<◌, ◌≤◌, ℤ, pos, ◌+ℤ◌, ◌-ℤ◌, ◌≤ℤ◌, ◌<ℤ◌, nat_abs, int_le, nat_le, Bool, true, false, cond, List, [], ◌∷◌, ◌++◌, length, get_or, slice_get, Some, Ok, Err, refl, sym, ap, ◌∙◌, inl, inr, ◌⊎◌, arith}
use Rattle.std.proofs.lemmas.Bool.Decides.{leb_tells}
use Rattle.std.proofs.lemmas.Int.{ints}
use Rattle.liquid_model.specs.Data.{Datum, nil, number}
use Rattle.liquid_model.specs.Fallible.{◌>>=◌}
use Rattle.liquid_model.specs.declared.error.ErrorKind.TheVariants.{RangeTooLong}
use Rattle.liquid_core.specs.Places.{number_at}
use Rattle.liquid_evaluation.specs.Evaluation.{most_items, count_to, numbers_from}
use Rattle.liquid_evaluation.specs.Ranges.{between, range_items, range_count, checked_count}

-- ---- numbers

pub numbers_count : (a : ℤ) (n : ℕ) → length (numbers_from a n) ≡ n
numbers_count a zero = refl
numbers_count a (suc n) = ap suc (numbers_count (a +ℤ pos 1) n)

pub numbers_place : (a : ℤ) (n k : ℕ) → k < n → slice_get (numbers_from a n) k ≡ Some (number (a +ℤ pos k))
numbers_place a zero k h = absurd (omega arith)
numbers_place a (suc n) zero h = ap (λ z. Some (number z)) (let e : a ≡ a +ℤ pos 0 = omega (arith, ints) in e)
numbers_place a (suc n) (suc k) h = numbers_place (a +ℤ pos 1) n k (omega arith) ∙ ap (λ z. Some (number z)) (let e : (a +ℤ pos 1) +ℤ pos k ≡ a +ℤ pos (suc k) = omega (arith, ints) in e)

number_within : (a : ℤ) (n k : ℕ) → k < n → get_or (numbers_from a n) k nil ≡ number (a +ℤ pos k)
number_within a zero k h = absurd (omega arith)
number_within a (suc n) zero h = ap number (let e : a ≡ a +ℤ pos 0 = omega (arith, ints) in e)
number_within a (suc n) (suc k) h = number_within (a +ℤ pos 1) n k (omega arith) ∙ ap number (let e : (a +ℤ pos 1) +ℤ pos k ≡ a +ℤ pos (suc k) = omega (arith, ints) in e)

number_past : (a : ℤ) (n k : ℕ) → n ≤ k → get_or (numbers_from a n) k nil ≡ nil
number_past a zero k h = refl
number_past a (suc n) zero h = absurd (omega arith)
number_past a (suc n) (suc k) h = number_past (a +ℤ pos 1) n k (omega arith)

-- one number more
pub numbers_more : (a : ℤ) (n : ℕ) → numbers_from a (n + 1) ≡ numbers_from a n ++ number (a +ℤ pos n) ∷ []
numbers_more a n = ap (numbers_from a) (let e : n + 1 ≡ suc n = omega arith in e) ∙ more a n
  where
    more : (a : ℤ) (n : ℕ) → numbers_from a (suc n) ≡ numbers_from a n ++ number (a +ℤ pos n) ∷ []
    more a zero = ap (λ z. number z ∷ []) (let e : a ≡ a +ℤ pos 0 = omega (arith, ints) in e)
    more a (suc n) = ap (λ l. number a ∷ l) (more (a +ℤ pos 1) n ∙ ap (λ z. numbers_from (a +ℤ pos 1) n ++ number z ∷ []) (let e : (a +ℤ pos 1) +ℤ pos n ≡ a +ℤ pos (suc n) = omega (arith, ints) in e))

-- ---- how many numbers stand between two

up : (t : Bool) (a b : ℤ) (n : ℕ) → int_le a b ≡ t → a ≤ℤ b → pos n ≡ (b -ℤ a) +ℤ pos 1 → n ≡ cond t (suc (nat_abs (b -ℤ a))) 0
up true a b n e h k = omega (arith, ints)
up false a b n e h k = absurd (omega (arith, ints))

pub count_up : (a b : ℤ) (n : ℕ) → a ≤ℤ b → pos n ≡ (b -ℤ a) +ℤ pos 1 → n ≡ count_to a b
count_up a b n = up (int_le a b) a b n refl

count_when : (t : Bool) (a b : ℤ) (i : ℕ) → int_le a b ≡ t → i < cond t (suc (nat_abs (b -ℤ a))) 0 → (a +ℤ pos i) ≤ℤ b
count_when true a b i e h = omega (arith, ints)
count_when false a b i e h = absurd (omega arith)

count_past : (t : Bool) (a b : ℤ) (i : ℕ) → int_le a b ≡ t → cond t (suc (nat_abs (b -ℤ a))) 0 ≤ i → b <ℤ (a +ℤ pos i)
count_past true a b i e h = omega (arith, ints)
count_past false a b i e h = omega (arith, ints)

pub here : (t : Bool) (a b : ℤ) (i : ℕ) → int_le (a +ℤ pos i) b ≡ t → (a +ℤ pos i) ≤ℤ b → cond t (number (a +ℤ pos i)) nil ≡ number (a +ℤ pos i)
here true a b i e h = refl
here false a b i e h = absurd (omega (arith, ints))

pub beyond : (t : Bool) (a b : ℤ) (i : ℕ) → int_le (a +ℤ pos i) b ≡ t → b <ℤ (a +ℤ pos i) → cond t (number (a +ℤ pos i)) nil ≡ nil
beyond true a b i e h = absurd (omega (arith, ints))
beyond false a b i e h = refl

pub number_there : (a b : ℤ) (i : ℕ) → i < count_to a b → number_at a b i ≡ number (a +ℤ pos i)
number_there a b i h = here (int_le (a +ℤ pos i) b) a b i refl (count_when (int_le a b) a b i refl h)

-- the number at a place is that of the list
pub number_by_place : (a b : ℤ) (i : ℕ) → number_at a b i ≡ get_or (numbers_from a (count_to a b)) i nil
number_by_place a b i = on (leb_tells (count_to a b) i)
  where
    on : ((nat_le (count_to a b) i ≡ true) × (count_to a b ≤ i)) ⊎ ((nat_le (count_to a b) i ≡ false) × (i < count_to a b)) → number_at a b i ≡ get_or (numbers_from a (count_to a b)) i nil
    on (inl p) = beyond (int_le (a +ℤ pos i) b) a b i refl (count_past (int_le a b) a b i refl p.1) ∙ sym (number_past a (count_to a b) i p.1)
    on (inr p) = number_there a b i p.1 ∙ sym (number_within a (count_to a b) i p.1)

-- ---- how many items there are

checked_by : (t : Bool) (ds : List Datum) (n : ℕ) → length ds ≡ n → (cond t (Ok ds) (Err RangeTooLong) >>= (λ es. Ok (length es))) ≡ cond t (Ok n) (Err RangeTooLong)
checked_by true ds n h = ap Ok h
checked_by false ds n h = refl

pub count_of_numbers : (a b : ℤ) → range_count (between a b) ≡ checked_count (count_to a b)
count_of_numbers a b = checked_by (nat_le (count_to a b) most_items) (numbers_from a (count_to a b)) (count_to a b) (numbers_count a (count_to a b))

-- where the count is no fault, all numbers are answered
pub numbers_counted : (a b : ℤ) (n : ℕ) → range_count (between a b) ≡ Ok n → (count_to a b ≡ n) × (range_items (between a b) ≡ Ok (numbers_from a n))
numbers_counted a b n h = on (nat_le (count_to a b) most_items) h
  where
    on : (t : Bool) → (cond t (Ok (numbers_from a (count_to a b))) (Err RangeTooLong) >>= (λ es. Ok (length es))) ≡ Ok n
        → (count_to a b ≡ n) × (cond t (Ok (numbers_from a (count_to a b))) (Err RangeTooLong) ≡ Ok (numbers_from a n))
    on true h =
        let l : length (numbers_from a (count_to a b)) ≡ n = cc in
        let m : count_to a b ≡ n = sym (numbers_count a (count_to a b)) ∙ l in
        (m, ap (λ k. Ok (numbers_from a k)) m)
    on false h = absurd cc
