-- What was put at a key is found there, and the other keys keep theirs.
use Rattle.std.proofs.Common.{◌≡◌, ℕ, List, Ordering, Less, Equal, Greater, Bool, true, false, Some, bytes_eq, is_eq, cond, T, nat_cmp, refl, sym, ap, ◌∙◌}
use Rattle.std.proofs.lemmas.Map.Text.{is_eq-slice_cmp}
use Rattle.std.proofs.lemmas.Slice.Eq.{bytes_eq-Decides}
use Rattle.std.specs.Cmp.Lexicographic.{slice_cmp, bytes_decides}
use Rattle.std.specs.Ordering.{match_ordering}
use Rattle.liquid_model.specs.Texts.{Text, same_text}
use Rattle.liquid_model.specs.Data.{Datum, Pairs, no_pairs, pair, put}
use Rattle.liquid_model.specs.Find.{value_at}

pub same_key : (k : List ℕ) → bytes_eq k k ≡ true
same_key k = (bytes_eq-Decides k k).1 refl

at_put : (o : Ordering) (k l : List ℕ) (d e : Datum) (ms : Pairs) → slice_cmp nat_cmp k l ≡ o → value_at k (put k d ms) ≡ Some d
    → value_at k (match_ordering o (pair k d (pair l e ms)) (pair l d ms) (pair l e (put k d ms))) ≡ Some d
at_put Less k l d e ms is later = rw same_key refl
at_put Equal k l d e ms is later = rw (sym (is_eq-slice_cmp k l) ∙ ap is_eq is) refl
at_put Greater k l d e ms is later = rw (sym (is_eq-slice_cmp k l) ∙ ap is_eq is) later

pub value_at_put : (k : List ℕ) (d : Datum) (ms : Pairs) → value_at k (put k d ms) ≡ Some d
value_at_put k d no_pairs = rw same_key refl
value_at_put k d (pair l e ms) = at_put _ k l d e ms refl (value_at_put k d ms)

apart : (q k : List ℕ) (b : Bool) → bytes_eq q k ≡ b → (q ≡ k → ⊥) → b ≡ false
apart q k true e other = absurd (other ((bytes_eq-Decides q k).0 e))
apart q k false e other = refl

other_key : (q k : List ℕ) → (q ≡ k → ⊥) → bytes_eq q k ≡ false
other_key q k other = apart q k _ refl other

at_put_other : (o : Ordering) (q k l : List ℕ) (d e : Datum) (ms : Pairs) → slice_cmp nat_cmp k l ≡ o → (q ≡ k → ⊥) → value_at q (put k d ms) ≡ value_at q ms
    → value_at q (match_ordering o (pair k d (pair l e ms)) (pair l d ms) (pair l e (put k d ms))) ≡ value_at q (pair l e ms)
at_put_other Less q k l d e ms is other later = rw (other_key q k other) refl
at_put_other Equal q k l d e ms is other later =
    let alike : k ≡ l = (bytes_eq-Decides k l).0 (sym (is_eq-slice_cmp k l) ∙ ap is_eq is) in
    let none : bytes_eq q l ≡ false = other_key q l (λ h. other (h ∙ sym alike)) in
    rw none refl
at_put_other Greater q k l d e ms is other later = ap (cond (bytes_eq q l) (Some e)) later

pub value_at_put_other : (q k : List ℕ) (d : Datum) (ms : Pairs) → (q ≡ k → ⊥) → value_at q (put k d ms) ≡ value_at q ms
value_at_put_other q k d no_pairs other = rw (other_key q k other) refl
value_at_put_other q k d (pair l e ms) other = at_put_other _ q k l d e ms refl other (value_at_put_other q k d ms other)

pub same_text_equal : (s t : Text) → T (same_text s t) → s ≡ t
same_text_equal s t h = (bytes_decides s t).0 (is_true _ h)
  where
    is_true : (b : Bool) → T b → b ≡ true
    is_true true k = refl
    is_true false k = absurd k
