-- The steps of a path, one after another.
use Rattle.std.proofs.Common.{◌≡◌, ℕ, zero, suc, ◌<◌, ◌≤◌, ◌==◌, ◌||◌, Bool, true, false, List, [], ◌∷◌, ◌++◌, length, take, drop, length-drop, append_assoc, append-nil, ℤ, Option, Some, None, if◌then◌else◌, ap, refl, sym, subst, ◌∙◌, arith, option_map}
use Rattle.std.specs.Option.{option_and_then}
use Rattle.std.specs.Prelude.{slice_index}
use Rattle.liquid_model.specs.Data.{Datum, text, number}
use Rattle.liquid_model.specs.Whole.{whole_text}
use Rattle.liquid_model.specs.Bytes.{is_letter, in_word, not_quote}
use Rattle.liquid_model.specs.Front.{literal_at, literal_by, integer_at, number_len, past_byte, quoted_at, run_len, until_quote, word_at}
use Rattle.liquid_model.specs.Words.{passes, continues_number}
use Rattle.liquid_filters.specs.Path.{bracketed_at, closed, path_member, path_step, path_step_by, steps_in}

-- what is left, if anything was read
abbrev left : {A : Type 0} → Option (A × List ℕ) → List ℕ
left None = []
left (Some x) = x.1

dropped : (n : ℕ) (s : List ℕ) → length (drop n s) ≤ length s
dropped n s = omega (arith, length-drop n s)

past_by : (t : Bool) (cs r : List ℕ) → (if t then Some cs else None) ≡ Some r → cs ≡ r
past_by true cs r e = cc
past_by false cs r e = absurd (let u : ⊥ = cc in u)

past_shrinks : (b : ℕ) (s r : List ℕ) → past_byte b s ≡ Some r → length r < length s
past_shrinks b [] r e = absurd (let u : ⊥ = cc in u)
past_shrinks b (c ∷ cs) r e = let same = past_by (c == b) cs r e in subst (λ (x : List ℕ). length x < suc (length cs)) same (omega arith)

word_by : (t : Bool) (w rest : List ℕ) (x : Datum × List ℕ) → option_map (λ (w : List ℕ × List ℕ). (text w.0, w.1)) (if t then Some (w, rest) else None) ≡ Some x → rest ≡ x.1
word_by true w rest x e = ap left e
word_by false w rest x e = absurd (let u : ⊥ = cc in u)

member_within : (s : List ℕ) (x : Datum × List ℕ) → path_member s ≡ Some x → length x.1 ≤ length s
unfolding path_member word_at
member_within s x e = subst (λ (r : List ℕ). length r ≤ length s) (word_by (is_letter (slice_index s 0)) (take (run_len in_word s) s) (drop (run_len in_word s) s) x e) (dropped (run_len in_word s) s)

closing : (q : ℕ) (bs s : List ℕ) (o : Option (List ℕ)) (y : List ℕ × List ℕ) → past_byte q (drop (run_len (not_quote q) bs) bs) ≡ o → option_map (λ rest. (s, rest)) o ≡ Some y → length y.1 ≤ length bs
closing q bs s None y e f = absurd (let u : ⊥ = cc in u)
closing q bs s (Some rest) y e f =
    let same : rest ≡ y.1 = ap left f in
    subst (λ (r : List ℕ). length r ≤ length bs) same (omega (arith, past_shrinks q (drop (run_len (not_quote q) bs) bs) rest e, dropped (run_len (not_quote q) bs) bs))

until_within : (q : ℕ) (bs : List ℕ) (y : List ℕ × List ℕ) → until_quote q bs ≡ Some y → length y.1 ≤ length bs
unfolding until_quote
until_within q bs y e = closing q bs (take (run_len (not_quote q) bs) bs) (past_byte q (drop (run_len (not_quote q) bs) bs)) y refl e

quoted_by : (t : Bool) (q : ℕ) (bs : List ℕ) (y : List ℕ × List ℕ) → (if t then until_quote q bs else None) ≡ Some y → length y.1 ≤ length bs
quoted_by true q bs y e = until_within q bs y e
quoted_by false q bs y e = absurd (let u : ⊥ = cc in u)

quoted_within : (s : List ℕ) (y : List ℕ × List ℕ) → quoted_at s ≡ Some y → length y.1 ≤ length s
unfolding quoted_at
quoted_within [] y e = absurd (let u : ⊥ = cc in u)
quoted_within (q ∷ bs) y e = omega (arith, quoted_by ((q == 34) || (q == 39)) q bs y e)

number_of : (t : Bool) (o : Option ℤ) (rest : List ℕ) (x : Datum × List ℕ) → option_map (λ (n : ℤ × List ℕ). (number n.0, n.1)) (if t then None else option_map (λ n. (n, rest)) o) ≡ Some x → rest ≡ x.1
number_of true o rest x e = absurd (let u : ⊥ = cc in u)
number_of false None rest x e = absurd (let u : ⊥ = cc in u)
number_of false (Some n) rest x e = ap left e

literal_from : (s : List ℕ) (o : Option (List ℕ × List ℕ)) (x : Datum × List ℕ) → quoted_at s ≡ o → literal_by s o ≡ Some x → length x.1 ≤ length s
unfolding integer_at
literal_from s None x e f =
    let n = number_len s in
    subst (λ (r : List ℕ). length r ≤ length s) (number_of (passes continues_number (drop n s)) (whole_text (take n s)) (drop n s) x f) (dropped n s)
literal_from s (Some y) x e f = subst (λ (r : List ℕ). length r ≤ length s) (let same : y.1 ≡ x.1 = ap left f in same) (quoted_within s y e)

literal_within : (s : List ℕ) (x : Datum × List ℕ) → literal_at s ≡ Some x → length x.1 ≤ length s
unfolding literal_at
literal_within s x e = literal_from s (quoted_at s) x refl e

closed_by : (x : Datum × List ℕ) (o : Option (List ℕ)) (y : Datum × List ℕ) → past_byte 93 x.1 ≡ o → option_map (λ rest. (x.0, rest)) o ≡ Some y → length y.1 ≤ length x.1
closed_by x None y e f = absurd (let u : ⊥ = cc in u)
closed_by x (Some rest) y e f = let same : rest ≡ y.1 = ap left f in subst (λ (r : List ℕ). length r ≤ length x.1) same (omega (arith, past_shrinks 93 x.1 rest e))

bracketed_from : (s : List ℕ) (o : Option (Datum × List ℕ)) (y : Datum × List ℕ) → literal_at s ≡ o → closed o ≡ Some y → length y.1 ≤ length s
bracketed_from s None y e f = absurd (let u : ⊥ = cc in u)
bracketed_from s (Some x) y e f = omega (arith, closed_by x (past_byte 93 x.1) y refl f, literal_within s x e)

bracketed_within : (s : List ℕ) (y : Datum × List ℕ) → bracketed_at s ≡ Some y → length y.1 ≤ length s
unfolding bracketed_at
bracketed_within s y e = bracketed_from s (literal_at s) y refl e

step_from : (s : List ℕ) (o p : Option (List ℕ)) (x : Datum × List ℕ) → past_byte 91 s ≡ o → past_byte 46 s ≡ p → path_step_by o p ≡ Some x → length x.1 < length s
step_from s (Some inside) p x e f g = omega (arith, past_shrinks 91 s inside e, bracketed_within inside x g)
step_from s None (Some from) x e f g = omega (arith, past_shrinks 46 s from f, member_within from x g)
step_from s None None x e f g = absurd (let u : ⊥ = cc in u)

pub step_shrinks : (s : List ℕ) (x : Datum × List ℕ) → path_step s ≡ Some x → length x.1 < length s
unfolding path_step
step_shrinks s x e = step_from s (past_byte 91 s) (past_byte 46 s) x refl refl e

-- the steps so far, and those of the rest: the number is enough for its bytes
pub Before : Option (List Datum) → List Datum → List ℕ → Type 0
Before all done rest = (n : ℕ) × (length rest ≤ n) × (all ≡ option_map (λ ds. done ++ ds) (steps_in n rest))

pub begin : (done : List Datum) (s : List ℕ) → Before (option_map (λ ds. done ++ ds) (steps_in (length s) s)) done s
unfolding Before
begin done s = (length s, omega arith, refl)

more : (done : List Datum) (d : Datum) (o : Option (List Datum)) → option_map (λ ds. done ++ ds) (option_map (λ ds. d ∷ ds) o) ≡ option_map (λ ds. (done ++ d ∷ []) ++ ds) o
more done d None = refl
more done d (Some ds) = ap Some (sym (append_assoc done (d ∷ []) ds))

turn_by : (n : ℕ) (all : Option (List Datum)) (done : List Datum) (b : ℕ) (s : List ℕ) (x : Datum × List ℕ) → length (b ∷ s) ≤ n → path_step (b ∷ s) ≡ Some x
    → all ≡ option_map (λ ds. done ++ ds) (steps_in n (b ∷ s)) → Before all (done ++ x.0 ∷ []) x.1
unfolding Before steps_in
turn_by zero all done b s x l e h = absurd (omega arith)
turn_by (suc n) all done b s x l e h = (
  n,
  omega (arith, step_shrinks (b ∷ s) x e),
  h ∙ ap (λ o. option_map (λ ds. done ++ ds) (option_and_then (λ x. option_map (λ ds. x.0 ∷ ds) (steps_in n x.1)) o)) e ∙ more done x.0 (steps_in n x.1),
)

turn : (all : Option (List Datum)) (done : List Datum) (s : List ℕ) (x : Datum × List ℕ) → 0 < length s → path_step s ≡ Some x → Before all done s → Before all (done ++ x.0 ∷ []) x.1
unfolding Before
turn all done [] x l e h = absurd (omega arith)
turn all done (b ∷ s) x l e h = turn_by h.0 all done b s x h.1 e h.2

pub turned : (all : Option (List Datum)) (done next : List Datum) (s : List ℕ) (x : Datum × List ℕ) → next ≡ done ++ x.0 ∷ [] → 0 < length s → path_step s ≡ Some x → Before all done s → Before all next x.1
turned all done next s x e l f h = subst (λ ds. Before all ds x.1) (sym e) (turn all done s x l f h)

ended_by : (n : ℕ) (all : Option (List Datum)) (done : List Datum) (b : ℕ) (s : List ℕ) → path_step (b ∷ s) ≡ None → all ≡ option_map (λ ds. done ++ ds) (steps_in n (b ∷ s)) → all ≡ None
unfolding steps_in
ended_by zero all done b s e h = h
ended_by (suc n) all done b s e h = h ∙ ap (λ o. option_map (λ ds. done ++ ds) (option_and_then (λ x. option_map (λ ds. x.0 ∷ ds) (steps_in n x.1)) o)) e

-- where a part is no step there is no path
pub ended : (all : Option (List Datum)) (done : List Datum) (s : List ℕ) → 0 < length s → path_step s ≡ None → Before all done s → all ≡ None
unfolding Before
ended all done [] l e h = absurd (omega arith)
ended all done (b ∷ s) l e h = ended_by h.0 all done b s e h.2

none_left : (n : ℕ) → steps_in n [] ≡ Some []
unfolding steps_in
none_left zero = refl
none_left (suc n) = refl

pub over : (all : Option (List Datum)) (done : List Datum) (s : List ℕ) → length s ≡ 0 → Before all done s → all ≡ Some done
unfolding Before
over all done [] l h = h.2 ∙ ap (λ o. option_map (λ ds. done ++ ds) o) (none_left h.0) ∙ ap Some (append-nil done)
over all done (b ∷ s) l h = absurd (omega arith)
