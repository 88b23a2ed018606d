-- The items of loops, from two environments that are alike, are alike in what is granted.
use Rattle.std.specs.Prelude.{◌≡◌, ℕ, zero, suc, ◌+◌, ◌<◌, ◌≤◌, min, take, ℤ, pos, negsuc, Bool, true, false, cond, T, List, [], ◌∷◌, length, get_or, nat_le, Option, Some, None, Result, Ok, Err}
use mathlib.Core.List.{reverse, reverse_aux}
use mathlib.Core.Path.{refl, sym, ap, subst, subst₂, ◌∙◌}
use native.Mathlib.Omega.{arith}
use Rattle.std.proofs.Common.{ap₂}
use Rattle.std.proofs.lemmas.List.{get_or-take, length-take}
use Rattle.liquid_model.specs.Texts.{Text}
use Rattle.liquid_model.specs.Data.{Datum, nil, truth, number, text, array, object}
use Rattle.liquid_model.specs.declared.error.ErrorKind.{ErrorKind}
use Rattle.liquid_model.specs.declared.error.ErrorKind.TheVariants.{UnexpectedValue, RangeTooLong}
use Rattle.liquid_core.specs.Expression.{Expression, literal, variable}
use Rattle.liquid_core.specs.Environment.{Environment}
use Rattle.liquid_core.specs.Expressions.{value_of, sought_whole}
use Rattle.liquid_model.specs.Fallible.{◌>>=◌}
use Rattle.liquid_evaluation.specs.Tree.{Source, each_of, counted, Window}
use Rattle.liquid_evaluation.specs.Evaluation.{value_items, most_items, not_too_long, source_items, amount, skipped, selected_count, items_in_window, window_items, selected_items}
use Rattle.liquid_model.specs.Uses.{Use, everything, parts, no_fields, up_to, shape_of, loop_items, is_loopable, Pairwise, PairwiseUpTo, Alike}
use Rattle.liquid_meaning.specs.Reading.{Uses, grants, grants_optional, literal_amount, literal_limit, literal_offset, limit_after, seen_limit, grants_source, grants_window}
use Rattle.liquid_meaning.specs.Reads.{AlikeIn, Both}
use Rattle.liquid_model.proofs.Alike.{AlikeLists, pairwise_length, up_to_same, both_left, both_right, alike_same}
use Rattle.liquid_meaning.proofs.Seen.{both_equal, both_then, same_then, required_alike, whole_equal, amount_equal}

-- first the same, and then what is alike, where the value is known
then_both_as : {A B : Type 0} (S : B → B → Type 0) (x y : Result A ErrorKind) (k l : A → Result B ErrorKind) → x ≡ y → ((a : A) → x ≡ Ok a → Both S (k a) (l a)) → Both S (x >>= k) (y >>= l)
then_both_as S x y k l e g = subst (λ z. Both S (x >>= k) (z >>= l)) e (at x refl)
  where
    at : (z : Result _ ErrorKind) → x ≡ z → Both S (z >>= k) (z >>= l)
    at (Ok a) is = g a is
    at (Err kind) is = refl

module _ {A : Type 0} (R : A → A → Type 0) where
  pairwise_get : (z : A) → R z z → (xs ys : List A) (i : ℕ) → Pairwise R xs ys → R (get_or xs i z) (get_or ys i z)
  pairwise_get z r [] [] i h = r
  pairwise_get z r [] (y ∷ ys) i h = absurd h
  pairwise_get z r (x ∷ xs) [] i h = absurd h
  pairwise_get z r (x ∷ xs) (y ∷ ys) zero h = h.0
  pairwise_get z r (x ∷ xs) (y ∷ ys) (suc i) h = pairwise_get z r xs ys i h.1

  pairwise_turned : (xs ys zs ws : List A) → Pairwise R xs ys → Pairwise R zs ws → Pairwise R (reverse_aux xs zs) (reverse_aux ys ws)
  pairwise_turned [] [] zs ws h k = k
  pairwise_turned [] (y ∷ ys) zs ws h k = absurd h
  pairwise_turned (x ∷ xs) [] zs ws h k = absurd h
  pairwise_turned (x ∷ xs) (y ∷ ys) zs ws h k = pairwise_turned xs ys (x ∷ zs) (y ∷ ws) h.1 (h.0, k)

  pub pairwise_reverse : (xs ys : List A) → Pairwise R xs ys → Pairwise R (reverse xs) (reverse ys)
  pairwise_reverse xs ys h = pairwise_turned xs ys [] [] h tt

-- whether a loop goes over values of this kind
goes : Option Datum → Bool
goes (Some nil) = true
goes (Some (array ds)) = true
goes (Some (object ps)) = true
goes _ = false

by_kind : (d : Datum) → value_items d ≡ cond (goes (shape_of (Some d))) (Ok (loop_items d)) (Err UnexpectedValue)
unfolding goes
by_kind nil = refl
by_kind (truth b) = refl
by_kind (number z) = refl
by_kind (text s) = refl
by_kind (array ds) = refl
by_kind (object ps) = refl

-- alike up to a limit
abbrev pub AlikeUpTo : Option ℕ → Use → List Datum → List Datum → Type 0
AlikeUpTo n u = PairwiseUpTo n (λ c d. Alike u (Some c) (Some d))

up_to_loopable : (n : Option ℕ) (u : Use) (ds es : List Datum) → AlikeUpTo n u ds es → is_loopable ds ≡ is_loopable es
up_to_loopable None u ds es h = ap (λ k. nat_le k most_items) (pairwise_length _ ds es h)
up_to_loopable (Some n) u ds es h = h.0

module _ (n : Option ℕ) (u : Use) where
  not_too_long_alike : (ds es : List Datum) → AlikeUpTo n u ds es → Both (AlikeUpTo n u) (not_too_long (length ds) ds) (not_too_long (length es) es)
  not_too_long_alike ds es h = subst (λ b. Both (AlikeUpTo n u) (not_too_long (length ds) ds) (cond b (Ok es) (Err RangeTooLong))) (up_to_loopable n u ds es h) (at (nat_le (length ds) most_items))
    where
      at : (b : Bool) → Both (AlikeUpTo n u) (cond b (Ok ds) (Err RangeTooLong)) (cond b (Ok es) (Err RangeTooLong))
      at true = h
      at false = refl

  value_items_alike : (c d : Datum) → shape_of (Some c) ≡ shape_of (Some d) → AlikeUpTo n u (loop_items c) (loop_items d) → Both (AlikeUpTo n u) (value_items c) (value_items d)
  value_items_alike c d e h = subst₂ (Both (AlikeUpTo n u)) (sym (by_kind c)) (sym (by_kind d)) (subst (λ b. Both (AlikeUpTo n u) (cond (goes (shape_of (Some c))) (Ok (loop_items c)) (Err UnexpectedValue)) (cond b (Ok (loop_items d)) (Err UnexpectedValue))) (ap goes e) (at (goes (shape_of (Some c)))))
    where
      at : (b : Bool) → Both (AlikeUpTo n u) (cond b (Ok (loop_items c)) (Err UnexpectedValue)) (cond b (Ok (loop_items d)) (Err UnexpectedValue))
      at true = h
      at false = refl

module _ (u : Use) where
  items_at_alike : (ds es : List Datum) (o m : ℕ) → AlikeLists u ds es → AlikeLists u (items_in_window ds o m) (items_in_window es o m)
  items_at_alike ds es o zero h = tt
  items_at_alike ds es o (suc m) h = (pairwise_get _ nil (alike_same u (Some nil)) ds es o h, items_at_alike ds es (suc o) m h)

  -- the items of a list of n
  abbrev within : Option ℤ → Option ℤ → ℕ → List Datum → List Datum
  within limit offset n ds = items_in_window ds (skipped n offset) (selected_count n (skipped n offset) limit)

  window_alike : (ds es : List Datum) (limit offset : Option ℤ) (reversed : Bool) → AlikeLists u ds es → AlikeLists u (window_items ds limit offset reversed) (window_items es limit offset reversed)
  window_alike ds es limit offset reversed h = at (length ds) (length es) (pairwise_length _ ds es h)
    where
      turned : (xs ys : List Datum) (b : Bool) → AlikeLists u xs ys → AlikeLists u (cond b (reverse xs) xs) (cond b (reverse ys) ys)
      turned xs ys true k = pairwise_reverse _ xs ys k
      turned xs ys false k = k

      at : (n m : ℕ) → n ≡ m → AlikeLists u (cond reversed (reverse (within limit offset n ds)) (within limit offset n ds)) (cond reversed (reverse (within limit offset m es)) (within limit offset m es))
      at n m e = subst (λ m. AlikeLists u (cond reversed (reverse (within limit offset n ds)) (within limit offset n ds)) (cond reversed (reverse (within limit offset m es)) (within limit offset m es))) e (turned (within limit offset n ds) (within limit offset n es) reversed (items_at_alike ds es (skipped n offset) (selected_count n (skipped n offset) limit) h))

-- ---- a window that ends

-- no item from place n on is asked for
window_within : (ds : List Datum) (n o m : ℕ) → o + m ≤ n → items_in_window (take n ds) o m ≡ items_in_window ds o m
window_within ds n o zero h = refl
window_within ds n o (suc m) h =
    let here : o < n = omega arith in
    let rest : suc o + m ≤ n = omega arith in
    ap₂ (λ x xs. x ∷ xs) (get_or-take n ds o nil here) (window_within ds n (suc o) m rest)

-- the offset leaves out k items at most, and the limit asks for l at most
window_cut : (ds : List Datum) (limit offset : Option ℤ) (k l : ℕ) → ((n : ℕ) → skipped n offset ≡ min k n) → ((n o : ℕ) → selected_count n o limit ≡ min l n)
    → (reversed : Bool) → window_items (take (k + l) ds) limit offset reversed ≡ window_items ds limit offset reversed
window_cut ds limit offset k l skips wants reversed = ap (λ xs. cond reversed (reverse xs) xs) same
  where
    count : length (take (k + l) ds) ≡ min (k + l) (length ds)
    count = length-take (k + l) ds

    same_offset : skipped (length (take (k + l) ds)) offset ≡ min k (length ds)
    same_offset = skips (length (take (k + l) ds)) ∙ (ap (min k) count ∙ (let e : min k (min (k + l) (length ds)) ≡ min k (length ds) = omega arith in e))

    same_limit : (o : ℕ) → selected_count (length (take (k + l) ds)) o limit ≡ min l (length ds)
    same_limit o = wants (length (take (k + l) ds)) o ∙ (ap (min l) count ∙ (let e : min l (min (k + l) (length ds)) ≡ min l (length ds) = omega arith in e))

    same : items_in_window (take (k + l) ds) (skipped (length (take (k + l) ds)) offset) (selected_count (length (take (k + l) ds)) (skipped (length (take (k + l) ds)) offset) limit) ≡ items_in_window ds (skipped (length ds) offset) (selected_count (length ds) (skipped (length ds) offset) limit)
    same =
        ap₂ (items_in_window (take (k + l) ds)) same_offset (same_limit (skipped (length (take (k + l) ds)) offset))
        ∙ (window_within ds (k + l) (min k (length ds)) (min l (length ds)) (omega arith)
        ∙ sym (ap₂ (items_in_window ds) (skips (length ds)) (wants (length ds) (skipped (length ds) offset))))

abbrev of_ok : {A : Type 0} → A → Result A ErrorKind → A
of_ok z (Ok a) = a
of_ok z (Err kind) = z

abbrev of_some : ℕ → Option ℕ → ℕ
of_some z None = z
of_some z (Some n) = n

module _ (e : Environment) where
  -- what a literal amount is
  amount_is : (x : Expression) (n : ℕ) → literal_amount x ≡ Some n → amount (Some x) e ≡ Ok (Some (pos n))
  unfolding amount sought_whole value_of
  amount_is (literal (number (pos m))) n h = ap (λ k. Ok (Some (pos (of_some m k)))) h
  amount_is (literal (number (negsuc m))) n h = absurd cc
  amount_is (literal nil) n h = absurd cc
  amount_is (literal (truth b)) n h = absurd cc
  amount_is (literal (text s)) n h = absurd cc
  amount_is (literal (array ds)) n h = absurd cc
  amount_is (literal (object ps)) n h = absurd cc
  amount_is (variable name steps) n h = absurd cc

  limit_wants : (x : Option Expression) (l : ℕ) → literal_limit x ≡ Some l → (limit : Option ℤ) → amount x e ≡ Ok limit → (n o : ℕ) → selected_count n o limit ≡ min l n
  limit_wants None l h limit is n o = absurd cc
  limit_wants (Some x) l h limit is n o = ap (λ r. selected_count n o (of_ok limit r)) (sym is ∙ amount_is x l h)

  offset_skips : (x : Option Expression) (k : ℕ) → literal_offset x ≡ Some k → (offset : Option ℤ) → amount x e ≡ Ok offset → (n : ℕ) → skipped n offset ≡ min k n
  unfolding amount
  offset_skips None k h offset is n = ap (λ r. skipped n (of_ok offset r)) (sym is) ∙ ((let z : 0 ≡ min 0 n = omega arith in z) ∙ ap (λ o. min (of_some 0 o) n) h)
  offset_skips (Some x) k h offset is n = ap (λ r. skipped n (of_ok offset r)) (sym is ∙ amount_is x k h)

  cut_alike : (u : Use) (x y : Option Expression) (limit offset : Option ℤ) → amount x e ≡ Ok limit → amount y e ≡ Ok offset
      → (a b : Option ℕ) → literal_offset y ≡ a → literal_limit x ≡ b
      → (ds es : List Datum) → AlikeUpTo (limit_after a b) u ds es → (reversed : Bool) → AlikeLists u (window_items ds limit offset reversed) (window_items es limit offset reversed)
  cut_alike u x y limit offset is at None b f g ds es h reversed = window_alike u ds es limit offset reversed h
  cut_alike u x y limit offset is at (Some k) None f g ds es h reversed = window_alike u ds es limit offset reversed h
  cut_alike u x y limit offset is at (Some k) (Some l) f g ds es h reversed =
      subst₂ (AlikeLists u)
      (window_cut ds limit offset k l (offset_skips y k f offset at) (limit_wants x l g limit is) reversed)
      (window_cut es limit offset k l (offset_skips y k f offset at) (limit_wants x l g limit is) reversed)
      (window_alike u (take (k + l) ds) (take (k + l) es) limit offset reversed h.1)

module _ (U : Uses) (e f : Environment) (agree : AlikeIn U e f) where
  pub source_alike : (name : Text) (n : Option ℕ) (source : Source) → T (grants_source U name n source) → Both (AlikeUpTo n (U name)) (source_items source e) (source_items source f)
  unfolding source_items grants_source
  source_alike name n (each_of x) h =
      both_then (λ c d. Alike (parts no_fields (up_to n (U name))) (Some c) (Some d)) _ _ _ _ _ (required_alike U e f agree x (parts no_fields (up_to n (U name))) tt h) (λ c d a.
      both_then (AlikeUpTo n (U name)) _ _ _ _ _ (value_items_alike n (U name) c d a.0 a.1.1) (λ ds es k.
      not_too_long_alike n (U name) ds es k))
  source_alike name n (counted x y) h = both_equal _ (λ ds. up_to_same _ (λ d. alike_same (U name) (Some d)) n ds) _ _
      (same_then (whole_equal U e f agree x (both_left (grants U x everything) _ h)) (λ a. same_then (whole_equal U e f agree y (both_right (grants U x everything) _ h)) (λ b. refl)))

  pub asked_alike : (u : Use) (window : Window) (ds es : List Datum) → AlikeUpTo (seen_limit window) u ds es → T (grants_window U window) → Both (AlikeLists u) (selected_items window ds e) (selected_items window es f)
  unfolding selected_items grants_window
  asked_alike u window ds es k h =
      then_both_as _ _ _ _ _ (amount_equal U e f agree window.limit (both_left (grants_optional U window.limit) _ h)) (λ limit is.
      then_both_as _ _ _ _ _ (amount_equal U e f agree window.offset (both_right (grants_optional U window.limit) _ h)) (λ offset at.
      cut_alike e u window.limit window.offset limit offset is at _ _ refl refl ds es k window.reversed))
