-- What the parts of a range's code answer.
use Rattle.std.proofs.Common.{rules, ◌≡◌, ℕ, zero, suc, ◌+◌, ◌<◌, ◌≤◌, nat_le, ℤ, pos, ◌+ℤ◌, ◌≤ℤ◌, ◌<ℤ◌, int_le, Bool, true, false, MatchBool, cond, List, [], ◌∷◌, ◌++◌, length, map, get_or, Vec, Global, Result, Ok, Err, refl, sym, ap, ◌∙◌, subst, arith}
use Rattle.std.specs.Bool.{⊤}
use Rattle.std.proofs.lemmas.List.{map-append}
use Rattle.liquid_model.specs.Answer.{Answers, IsValueOrMemory, Faulted}
use Rattle.liquid_model.specs.Cow.{cow_view}
use Rattle.liquid_model.specs.Data.{Datum, nil, number}
use Rattle.liquid_model.specs.ErrorKinds.{is_memory, is_refusal}
use Rattle.liquid_model.specs.Fallible.{◌>>=◌}
use Rattle.liquid_model.specs.Lists.{pair_lists}
use Rattle.liquid_model.specs.View.{view, pairs_view}
use Rattle.liquid_model.specs.declared.error.Error.{Error}
use Rattle.liquid_model.specs.declared.error.ErrorKind.{ErrorKind}
use Rattle.liquid_model.specs.declared.error.ErrorKind.TheVariants.{RangeTooLong}
use Rattle.liquid_model.specs.declared.cow.ValueCow.{ValueCow}
use Rattle.liquid_model.specs.declared.cow.ValueCow.TheVariants.{Owned}
use Rattle.liquid_model.specs.declared.value.Value.{Value, the_lemmas}
use Rattle.liquid_model.specs.declared.value.Value.TheVariants.{Array, Integer, Nil}
use Rattle.liquid_model.proofs.Views.{Entry, view-Array, list_of_view}
use Rattle.liquid_core.specs.Places.{number_at}
use Rattle.liquid_evaluation.specs.Evaluation.{most_items, not_too_long, count_to, numbers_from, value_items}
use Rattle.liquid_evaluation.specs.Ranges.{range_count, range_items, checked_count, value_count}
use Rattle.liquid_evaluation.specs.SourceView.{range_view}
use Rattle.liquid_evaluation.specs.declared.range.Range.{Range}
use Rattle.liquid_evaluation.specs.declared.range.Range.TheVariants.{Counted}
use Rattle.liquid_evaluation.specs.declared.range.Range.TheVariants as ranges
use Rattle.liquid_evaluation.proofs.Calls.{faulted_as, faulted_then}
use Rattle.liquid_evaluation.proofs.Ranges.{beyond, count_of_numbers, here, numbers_counted, numbers_more, number_there}

-- ---- the items of a value

pub pairs_length : (ms : List Entry) → length (pair_lists (pairs_view ms)) ≡ length ms
pairs_length [] = refl
pairs_length (m ∷ ms) = ap suc (pairs_length ms)

pub item_past : (vs : List Value) (i : ℕ) → length vs ≤ i → nil ≡ get_or (map view vs) i nil
item_past [] i h = refl
item_past (v ∷ vs) zero h = absurd (omega arith)
item_past (v ∷ vs) (suc i) h = item_past vs i (omega arith)

-- the items of a value are counted before they are checked against the bound
by_parts : (v : Result (List Datum) ErrorKind) → ((v >>= (λ ds. not_too_long (length ds) ds)) >>= (λ ds. Ok (length ds))) ≡ ((v >>= (λ ds. Ok (length ds))) >>= checked_count)
by_parts (Err kind) = refl
by_parts (Ok ds) = on (nat_le (length ds) most_items)
  where
    on : (t : Bool) → (cond t (Ok ds) (Err RangeTooLong) >>= (λ es. Ok (length es))) ≡ cond t (Ok (length ds)) (Err RangeTooLong)
    on true = refl
    on false = refl

array_count : (s : Range) (cow : ValueCow) (value : Value) → s ≡ ranges.Array cow → view value ≡ cow_view cow → range_count (range_view s) ≡ (value_count (view value) >>= checked_count)
array_count s cow value is e = ap (λ t. range_count (range_view t)) is ∙ by_parts (value_items (cow_view cow)) ∙ ap (λ d. value_count d >>= checked_count) (sym e)

pub array_answer : (s : Range) (cow : ValueCow) (value : Value) (n : ℕ) (r : Result ℕ Error) → s ≡ ranges.Array cow → view value ≡ cow_view cow → value_count (view value) ≡ Ok n
    → Answers (λ m. m) r (checked_count n) → Answers (λ m. m) r (range_count (range_view s))
array_answer s cow value n r is e counts h =
    subst (λ w. Answers (λ m. m) r w) (sym (array_count s cow value is e ∙ ap (λ a. a >>= checked_count) counts)) h

pub array_faulted : (s : Range) (cow : ValueCow) (value : Value) (kind : ErrorKind) → s ≡ ranges.Array cow → view value ≡ cow_view cow → Faulted kind (value_count (view value))
    → Faulted kind (range_count (range_view s))
array_faulted s cow value kind is e h = faulted_as kind _ _ (array_count s cow value is e) (faulted_then kind (value_count (view value)) checked_count h)

-- what has no count has no items
pub count_faulted : (kind : ErrorKind) (r : Result (List Datum) ErrorKind) → Faulted kind (r >>= (λ ds. Ok (length ds))) → Faulted kind r
count_faulted kind r h = on (is_memory kind) r h
  where
    on : (m : Bool) (r : Result (List Datum) ErrorKind) → MatchBool m ⊤ (((r >>= (λ ds. Ok (length ds))) ≡ Err kind) × (is_refusal kind ≡ false)) → MatchBool m ⊤ ((r ≡ Err kind) × (is_refusal kind ≡ false))
    on true r h = h
    on false (Ok ds) h = let e : Ok (length ds) ≡ Err kind = h.0 in absurd cc
    on false (Err k) h =
        let e : Err k ≡ Err kind = h.0 in
        let same : k ≡ kind = cc in
        (ap Err same, h.1)

-- where there is a count, the items aren't too many
counted : (v : Result (List Datum) ErrorKind) (n : ℕ) → ((v >>= (λ ds. not_too_long (length ds) ds)) >>= (λ ds. Ok (length ds))) ≡ Ok n → (v >>= (λ ds. not_too_long (length ds) ds)) ≡ v
counted (Err kind) n h = refl
counted (Ok ds) n h = on (nat_le (length ds) most_items) h
  where
    on : (t : Bool) → (cond t (Ok ds) (Err RangeTooLong) >>= (λ es. Ok (length es))) ≡ Ok n → cond t (Ok ds) (Err RangeTooLong) ≡ Ok ds
    on true h = refl
    on false h = absurd cc

abbrev pub cows : Vec ValueCow Global → List Datum
cows v = map cow_view v.items

pub borrowed_items : (r : Result (Vec ValueCow Global) Error) (value : Value) (v : Vec Value Global) → value ≡ Array v → IsValueOrMemory cows r (map view v.items) → Answers cows r (value_items (view value))
borrowed_items (Ok x) value v is h = ap (λ w. value_items (view w)) is ∙ ap value_items (view-Array v) ∙ ap Ok (list_of_view v.items ∙ sym h)
borrowed_items (Err e) value v is h = subst (λ kind. Faulted kind (value_items (view value))) (sym h) tt

pub list_given : (s : Range) (cow : ValueCow) (value : Value) (n : ℕ) (r : Result (Vec ValueCow Global) Error) → s ≡ ranges.Array cow → view value ≡ cow_view cow → range_count (range_view s) ≡ Ok n
    → Answers cows r (value_items (view value)) → Answers cows r (range_items (range_view s))
list_given s cow value n r is e counts h =
    subst (λ w. Answers cows r w) (ap value_items e ∙ sym (ap (λ t. range_items (range_view t)) is ∙ counted (value_items (cow_view cow)) n (ap (λ t. range_count (range_view t)) (sym is) ∙ counts))) h

-- ---- the numbers of a range

pub counted_answer : (s : Range) (a b a' b' : ℤ) (n : ℕ) (r : Result ℕ Error) → s ≡ Counted a b → a' ≡ a → b' ≡ b → n ≡ count_to a' b'
    → Answers (λ m. m) r (checked_count n) → Answers (λ m. m) r (range_count (range_view s))
counted_answer s a b a' b' n r is first last counts h =
    let e : checked_count n ≡ range_count (range_view s) =
    ap checked_count (counts ∙ ap (λ z. count_to z b') first ∙ ap (count_to a) last) ∙ sym (count_of_numbers a b) ∙ ap (λ t. range_count (range_view t)) (sym is) in
    subst (λ w. Answers (λ m. m) r w) e h

pub number_shown : (n a b : ℤ) (i : ℕ) → n ≡ a +ℤ pos i → n ≤ℤ b → view (Integer n) ≡ number_at a b i
number_shown n a b i e h =
    let seen : view (Integer n) ≡ number n = search (rules, the_lemmas) in
    seen ∙ ap number e ∙ sym (here (int_le (a +ℤ pos i) b) a b i refl (subst (λ m. m ≤ℤ b) e h))

pub no_number : (a b : ℤ) (i : ℕ) → b <ℤ (a +ℤ pos i) → view Nil ≡ number_at a b i
no_number a b i h =
    let empty : view Nil ≡ nil = search (rules, the_lemmas) in
    empty ∙ sym (beyond (int_le (a +ℤ pos i) b) a b i refl h)

-- a number is pushed
pub numbers_pushed : (a b a' b' : ℤ) (n count : ℕ) (before after : List ValueCow) (v : Value) → a' ≡ a → b' ≡ b → after ≡ before ++ Owned v ∷ [] → view v ≡ number_at a' b' n
    → n < count → count ≡ count_to a b → map cow_view before ≡ numbers_from a' n → map cow_view after ≡ numbers_from a' (n + 1)
numbers_pushed a b a' b' n count before after v first last pushed is h counts so_far =
    let there : n < count_to a' b' = subst (λ m. n < m) (counts ∙ sym (ap (λ z. count_to z b') first ∙ ap (count_to a) last)) h in
    ap (map cow_view) pushed ∙ map-append cow_view before (Owned v ∷ [])
    ∙ ap (λ ds. ds ++ view v ∷ []) so_far
    ∙ ap (λ d. numbers_from a' n ++ d ∷ []) (is ∙ number_there a' b' n there)
    ∙ sym (numbers_more a' n)

known : (s : Range) (a b : ℤ) (n : ℕ) → s ≡ Counted a b → range_count (range_view s) ≡ Ok n → range_count (range_view (Counted a b)) ≡ Ok n
known s a b n is h = ap (λ t. range_count (range_view t)) (sym is) ∙ h

pub numbers_wanted : (s : Range) (a b a' b' : ℤ) (n : ℕ) → s ≡ Counted a b → a' ≡ a → b' ≡ b → range_count (range_view s) ≡ Ok n → n ≡ count_to a' b'
numbers_wanted s a b a' b' n is first last h =
    sym ((ap (λ z. count_to z b') first ∙ ap (count_to a) last) ∙ (numbers_counted a b n (known s a b n is h)).0)

pub numbers_given : (s : Range) (a b a' : ℤ) (n : ℕ) (r : Result (Vec ValueCow Global) Error) → s ≡ Counted a b → a' ≡ a → range_count (range_view s) ≡ Ok n
    → IsValueOrMemory cows r (numbers_from a' n) → Answers cows r (range_items (range_view s))
numbers_given s a b a' n (Ok v) is first known_count h =
    ap (λ t. range_items (range_view t)) is ∙ (numbers_counted a b n (known s a b n is known_count)).1 ∙ ap Ok (ap (λ z. numbers_from z n) (sym first) ∙ sym h)
numbers_given s a b a' n (Err e) is first known_count h = subst (λ kind. Faulted kind (range_items (range_view s))) (sym h) tt
