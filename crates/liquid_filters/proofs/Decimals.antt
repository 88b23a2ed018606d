-- Decimal texts.
use Rattle.std.specs.Char.{is_ascii_digit}
use Rattle.std.specs.List.{list_all, position_or_len, before_first, after_first}
use Rattle.std.specs.Str.{all_ascii_digits}
use Rattle.std.proofs.Common.{◌≡◌, ◌≢◌, ℕ, ◌<◌, ◌+◌, List, [], ◌∷◌, length, take, get_or, eqb, ltb, Bool, true, false, if◌then◌else◌, refl, sym, ap, ◌∙◌, arith, ◌&&◌}
use Rattle.std.proofs.lemmas.Bool.Decides.{nat_tests, Decides-ltb}
use Rattle.std.proofs.lemmas.List.{take_all, drop_all}
use Rattle.std.specs.Str.Parse.{without_leading_sign, starts_with_minus}
use Rattle.liquid_filters.specs.Decimals.{IsReadFrom, has_point, is_cut, is_numeral, is_point}

not_eq : (c x : ℕ) (s : List ℕ) (t : Bool) → ((rest : List ℕ) → x ∷ s ≢ c ∷ rest) → eqb x c ≡ t → eqb x c ≡ false
not_eq c x s true h e = absurd (h s (ap (λ z. z ∷ s) (grind (arith, nat_tests))))
not_eq c x s false h e = e

first_not : (c : ℕ) (s : List ℕ) → 0 < c → ((rest : List ℕ) → s ≢ c ∷ rest) → eqb (get_or s 0 0) c ≡ false
first_not c [] p h = grind (arith, nat_tests)
first_not c (x ∷ s) p h = not_eq c x s (eqb x c) h refl

pub cut_none : (s : List ℕ) → ((rest : List ℕ) → s ≢ 45 ∷ rest) → ((rest : List ℕ) → s ≢ 43 ∷ rest) → s ≡ without_leading_sign s
cut_none s m p = rw (first_not 45 s (omega arith) m, first_not 43 s (omega arith) p) refl

pub all_digits : (s : List ℕ) → list_all is_ascii_digit s ≡ all_ascii_digits s
all_digits [] = refl
all_digits (c ∷ s) = ap (λ t. is_ascii_digit c && t) (all_digits s)

-- ---- what is read, with a point and without
all_three : (a b c : Bool) → a ≡ true → b ≡ true → c ≡ true → a && (if b then c else true) ≡ true
all_three a b c h i j = rw (h, i, j) refl

pub read_with_point : (s t ws fs : List ℕ) (negative : Bool) → t ≡ without_leading_sign s → negative ≡ starts_with_minus s → position_or_len is_point t < length t → ws ≡ before_first is_point t → fs ≡ after_first is_point t
    → is_numeral ws ≡ true → is_numeral fs ≡ true → IsReadFrom s negative ws fs
read_with_point s t ws fs negative e n p w f i j =
    record {
      decimal =
          all_three (is_numeral (before_first is_point (without_leading_sign s))) (has_point (without_leading_sign s)) (is_numeral (after_first is_point (without_leading_sign s)))
          (ap (λ (x : List ℕ). is_numeral (before_first is_point x)) (sym e) ∙ (ap is_numeral (sym w) ∙ i))
          (ap (λ (x : List ℕ). has_point x) (sym e) ∙ (Decides-ltb (position_or_len is_point t) (length t)).1 p)
          (ap (λ (x : List ℕ). is_numeral (after_first is_point x)) (sym e) ∙ (ap is_numeral (sym f) ∙ j));
      sign = n;
      before = w ∙ ap (λ (x : List ℕ). before_first is_point x) e;
      after = f ∙ ap (λ (x : List ℕ). after_first is_point x) e;
    }

none_below : (n m : ℕ) → n ≡ m → ltb n m ≡ false
none_below n m e = grind (arith, nat_tests)

one_of : (a b c : Bool) → b ≡ false → a && (if b then c else true) ≡ a && true
one_of a b c h = rw h refl

and_true : (a : Bool) → a && true ≡ a
and_true true = refl
and_true false = refl

whole_before : (t : List ℕ) → position_or_len is_point t ≡ length t → before_first is_point t ≡ t
whole_before t p = ap (λ (n : ℕ). take n t) p ∙ take_all (length t) t (omega arith)

-- without a point the text is as decimal as its digits are
cut_whole : (t : List ℕ) → position_or_len is_point t ≡ length t → is_cut t ≡ is_numeral t
cut_whole t p =
    one_of (is_numeral (before_first is_point t)) (has_point t) (is_numeral (after_first is_point t)) (none_below (position_or_len is_point t) (length t) p)
    ∙ (and_true (is_numeral (before_first is_point t)) ∙ ap is_numeral (whole_before t p))

pub read_without_point : (s t : List ℕ) (negative : Bool) → t ≡ without_leading_sign s → negative ≡ starts_with_minus s → position_or_len is_point t ≡ length t → is_numeral t ≡ true → IsReadFrom s negative t []
read_without_point s t negative e n p i =
    record {
      decimal = ap (λ (x : List ℕ). is_cut x) (sym e) ∙ (cut_whole t p ∙ i);
      sign = n;
      before = sym (whole_before t p) ∙ ap (λ (x : List ℕ). before_first is_point x) e;
      after = sym (drop_all (position_or_len is_point t + 1) t (omega (arith, p))) ∙ ap (λ (x : List ℕ). after_first is_point x) e;
    }

pub unread_without_point : (s t : List ℕ) → t ≡ without_leading_sign s → position_or_len is_point t ≡ length t → is_numeral t ≡ false → is_cut (without_leading_sign s) ≡ false
unread_without_point s t e p i = ap (λ (x : List ℕ). is_cut x) (sym e) ∙ (cut_whole t p ∙ i)
