-- The order of conditions along two lists; the whole number of a text beside what `parse` answers.
use Rattle.std.proofs.Common.{◌≡◌, ℕ, ℤ, pos, negsuc, ◌^◌, List, ◌∷◌, Bool, true, false, length, nat_lt, ◌<◌, Some, None, Result, Ok, Err, refl, sym, ap, ◌∙◌, rules, cond, ◌&&◌, not}
use Rattle.std.proofs.lemmas.Bool.{false≢true}
use lib.Signed.{mag}
use Rattle.std.specs.Fmt.{signed_decimal}
use Rattle.std.proofs.lemmas.Fmt.{parse-signed_decimal}
use Rattle.std.specs.Str.{all_ascii_digits}
use Rattle.std.specs.Str.Parse.{ParsesSigned, IsNumeral, without_leading_sign, signed_digits_value, digits_value}
use Rattle.std.proofs.lemmas.Str.Parse.{IsNumeralModel, numerals_by_value, tells_all_ascii_digits}
use Rattle.liquid_model.specs.Compare.{items_compare}
use Rattle.liquid_model.specs.Order.{same}
use Rattle.liquid_model.specs.View.{view, items_view}
use Rattle.liquid_model.specs.Whole.{fits, is_whole_text, whole_text}
use Rattle.liquid_model.specs.declared.value.Value.{Value}
use mir.Syntax.{w64}
use mir.Val.{SFits}

pub items_compare_next : (xs ys rest others : List Value) (x y : Value) → xs ≡ x ∷ rest → ys ≡ y ∷ others → same (view x) (view y) ≡ true
    → items_compare (items_view rest) (items_view others) ≡ items_compare (items_view xs) (items_view ys)
items_compare_next xs ys rest others x y e f h = rw (e, f, h) refl

pub own : IsNumeralModel (λ ds. all_ascii_digits ds ≡ true) (digits_value 10)
own = numerals_by_value _ tells_all_ascii_digits

fits_from : (z : ℤ) → SFits w64 z → fits z ≡ true
fits_from (pos n) f = let h : n < 2 ^ 63 = f.sfits in search rules
fits_from (negsuc n) f = let h : n < 2 ^ 63 = f.sfits in search rules

from_fits : (z : ℤ) → fits z ≡ true → SFits w64 z
from_fits (pos n) f = let h : n < 2 ^ 63 = search rules in record { sfits = h }
from_fits (negsuc n) f = let h : n < 2 ^ 63 = search rules in record { sfits = h }

both : (a b c : Bool) → a ≡ true → b ≡ true → c ≡ true → (a && b) && c ≡ true
both true true true e f g = refl
both false b c e f g = e
both true false c e f g = f
both true true false e f g = g

parts : (a b c : Bool) → (a && b) && c ≡ true → (a ≡ true) × (b ≡ true) × (c ≡ true)
parts true true true e = (refl, refl, refl)
parts false b c e = cc
parts true false c e = cc
parts true true false e = cc

left_out : {X : Type 0} (b : Bool) (x : X) → (b ≡ true → ⊥) → None ≡ cond b (Some x) None
left_out true x h = absurd (h refl)
left_out false x h = refl

pub unnot : (b : Bool) → false ≡ not b → b ≡ true
unnot true e = refl
unnot false e = e

some_digits : (s : List ℕ) → IsNumeral 10 (without_leading_sign s) × SFits w64 (signed_digits_value 10 s) → nat_lt 0 (length (without_leading_sign s)) ≡ true
some_digits s h = let p : 0 < length (without_leading_sign s) = h.0.0 in search rules

numeral : (s : List ℕ) → is_whole_text s && fits (signed_digits_value 10 s) ≡ true → IsNumeral 10 (without_leading_sign s) × SFits w64 (signed_digits_value 10 s)
numeral s all =
    let p = parts (nat_lt 0 (length (without_leading_sign s))) (all_ascii_digits (without_leading_sign s)) (fits (signed_digits_value 10 s)) all in
    let some : 0 < length (without_leading_sign s) = let q : nat_lt 0 (length (without_leading_sign s)) ≡ true = p.0 in search rules in
    ((some, own.to (without_leading_sign s) p.1), from_fits (signed_digits_value 10 s) p.2)

pub whole_ok : (s : List ℕ) (n : ℤ) → IsNumeral 10 (without_leading_sign s) × SFits w64 (signed_digits_value 10 s) → n ≡ signed_digits_value 10 s → Some n ≡ whole_text s
whole_ok s n h e =
    let all : is_whole_text s && fits (signed_digits_value 10 s) ≡ true = both _ _ _ (some_digits s h) (own.from (without_leading_sign s) h.0.1) (fits_from (signed_digits_value 10 s) h.1) in
    rw all (ap Some e)

pub whole_err : (s : List ℕ) → (IsNumeral 10 (without_leading_sign s) × SFits w64 (signed_digits_value 10 s) → ⊥) → None ≡ whole_text s
whole_err s h = left_out (is_whole_text s && fits (signed_digits_value 10 s)) (signed_digits_value 10 s) (λ all. h (numeral s all))

-- the text of a number has that whole number

meant : (s : List ℕ) (z : ℤ) (b : Bool) → is_whole_text s && fits (signed_digits_value 10 s) ≡ b → ((r : Result ℤ (Unit {0})) → ParsesSigned w64 10 s r → r ≡ Ok z) → Some z ≡ whole_text s
meant s z true e h =
    let p = numeral s e in
    let same : Ok (signed_digits_value 10 s) ≡ Ok z = h (Ok (signed_digits_value 10 s)) (p, refl) in
    whole_ok s z p cc
meant s z false e h = let none : Err tt ≡ Ok z = h (Err tt) (λ p. absurd (false≢true (sym e ∙ both _ _ _ (some_digits s p) (own.from (without_leading_sign s) p.0.1) (fits_from (signed_digits_value 10 s) p.1)))) in cc

within : (z : ℤ) → fits z ≡ true → mag z < 2 ^ 63
within (pos n) f = search rules
within (negsuc n) f = search rules

pub number_text_is_read : (z : ℤ) → fits z ≡ true → Some z ≡ whole_text (signed_decimal z)
number_text_is_read z f = meant (signed_decimal z) z _ refl (λ r h. parse-signed_decimal w64 z (signed_decimal z) r (from_fits z f) (within z f) refl h)
