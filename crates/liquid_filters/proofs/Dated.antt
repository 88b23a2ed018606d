-- What the filters of dates answer, without their steps.
use Rattle.std.proofs.Common.{◌≡◌, ◌⊎◌, inl, inr, refl, sym, ap, subst, ◌∙◌, Bool, true, false, ℤ, pos, neg_ℤ, ◌*ℤ◌, ◌≤ℤ◌, [], ◌∷◌, Option, Some, None, Ok, Err, MatchBool, ◌+◌, ◌*◌, ◌≤◌, ◌==◌, ℕ, suc, length, int_le, if◌then◌else◌, arith}
use Rattle.std.proofs.lemmas.Bool.{and_parts}
use Rattle.std.proofs.lemmas.Bool.Decides.{nat_tests}
use Rattle.std.proofs.lemmas.Int.{ints}
use Rattle.jiff_core.proofs.SignedLemmas.{signed_arith}
use Rattle.liquid_model.specs.Answer.{IsTheOne}
use Rattle.liquid_model.specs.Data.{Datum, text, text_of}
use Rattle.liquid_model.specs.Texts.{Text}
use Rattle.liquid_model.specs.Whole.{whole}
use Rattle.liquid_model.specs.declared.error.ErrorKind.TheVariants.{InvalidInput, InvalidArgument, TimezoneRange}
use Rattle.liquid_model.specs.Arguments.{Answer, number_or_fault, text_or}
use Rattle.liquid_model.specs.Fallible.{◌>>=◌}
use Rattle.liquid_model.proofs.Ones.{one, same_one}
use Rattle.liquid_filters.specs.Clock.{Clock, IsClock, instant}
use Rattle.liquid_filters.specs.Dates.{as_text, date_of, dated, in_zone, is_zone, or_input}
use Rattle.liquid_filters.specs.Instant.{clock_at}
use Rattle.liquid_filters.specs.DateLaws.{IsDate, IsNoDate, IsWritten, PrintsDate, DateIsOne, ShowsInstant, PrintsAt, DateInTzIsOne}
use Rattle.liquid_filters.specs.Printed.{printed}
use Rattle.liquid_filters.specs.DateSpelling.{Spelled, clock, exists, read}
use Rattle.liquid_filters.proofs.Clocks.{clock_of_instant, instant_of_clock, inside}
use Rattle.liquid_filters.proofs.Spelled.{read_is_written}
use Rattle.liquid_filters.proofs.Written.{plain_is_read, named_is_read, short_is_read}

-- ---- a value that is read is a date, and no other is

written_read : (x : Spelled) (s : Text) → exists x ≡ true → IsWritten x s → read s ≡ Some (clock x)
written_read x s there (inl plain) = ap read plain ∙ plain_is_read x there
written_read x s there (inr (inl named)) = ap read named ∙ named_is_read x there
written_read x s there (inr (inr short)) = ap read short.1 ∙ short_is_read x there short.0

date_read : (d : Datum) (x : Spelled) → IsDate d x → date_of d ≡ Some (clock x)
date_read d x (s, is, there, written) = ap date_of is ∙ written_read x s there written

some_other : {X : Type 0} (x : X) → None ≡ Some x → ⊥
some_other x e = cc

from_some : {X : Type 0} {x y : X} → Some x ≡ Some y → x ≡ y
from_some e = cc

read_date : (d : Datum) (c : Clock) → date_of d ≡ Some c → (x : Spelled) × IsDate d x × (c ≡ clock x)
read_date (text s) c e = let (x, there, is, written) = read_is_written s c e in (x, (s, refl, there, written), is)
read_date d c e = absurd (some_other c e)

no_date : (d : Datum) → date_of d ≡ None → IsNoDate d
no_date d none x is = some_other (clock x) (sym none ∙ date_read d x is)

-- what a value is that may be a date: R of its clock, or the answer of what is none
abbrev ByDate : Datum → (Clock → Answer → Type 0) → Answer → Answer → Type 0
ByDate d R other a = ((x : Spelled) × IsDate d x × R (clock x) a) ⊎ (IsNoDate d × (a ≡ other))

by_date_one : (d : Datum) (R : Clock → Answer → Type 0) (other : Answer) (o : Option Clock) (f : Option Clock → Answer) → date_of d ≡ o → f None ≡ other → ((x : Spelled) → exists x ≡ true → IsTheOne (R (clock x)) (f (Some (clock x))))
    → IsTheOne (ByDate d R other) (f o)
by_date_one d R other None f is missing ones =
    one (ByDate d R other) (f None) (inr (no_date d is, missing)) (unique)
  where
    unique : (a : Answer) → ByDate d R other a → a ≡ f None
    unique a (inl (x, date, r)) = absurd (no_date d is x date)
    unique a (inr (none, e)) = e ∙ sym missing
by_date_one d R other (Some c) f is missing ones =
    let (x, date, same) = read_date d c is in
    one (ByDate d R other) (f (Some c)) (inl (x, date, subst (λ z. R (clock x) (f (Some z))) (sym same) ((ones x date.2 _).1 refl))) unique
  where
    unique : (a : Answer) → ByDate d R other a → a ≡ f (Some c)
    unique a (inl (y, date, r)) =
        let at : clock y ≡ c = from_some (sym (date_read d y date) ∙ is) in
        (ones y date.2 a).0 r ∙ ap (λ z. f (Some z)) at
    unique a (inr (none, e)) = let (x, date, same) = read_date d c is in absurd (none x date)

-- ---- date

not_empty : (n : ℕ) → (suc n == 0) ≡ false
not_empty n = grind (arith, nat_tests)

dated_one : (d : Datum) (pattern : Text) → IsTheOne (PrintsDate d pattern) (dated d pattern)
dated_one d [] = same_one (Ok d)
dated_one d (b ∷ bs) =
    subst (λ t. IsTheOne (PrintsDate d (b ∷ bs)) (if t then Ok d else or_input d (date_of d) (b ∷ bs))) (sym (not_empty (length bs)))
    (by_date_one d (λ c a. a ≡ as_text (printed c (b ∷ bs))) (Ok d) (date_of d) (λ o. or_input d o (b ∷ bs)) refl refl (λ x there. same_one (as_text (printed (clock x) (b ∷ bs)))))

pub date_is_one : DateIsOne
date_is_one d args = dated_one d (text_or [] args)

-- ---- date_in_tz

-- a date that exists is shown by a clock
exists_clock : (x : Spelled) → exists x ≡ true → IsClock (clock x)
exists_clock x e =
    let high : x.date.year ≤ 9998 = grind (arith, nat_tests) in
    record {
      year = omega (arith, signed_arith, high);
      month = (grind (arith, nat_tests), grind (arith, nat_tests));
      day = (grind (arith, nat_tests), grind (arith, nat_tests));
      hour = grind (arith, nat_tests);
      minute = grind (arith, nat_tests);
      second = grind (arith, nat_tests);
      nanosecond = omega arith;
    }

year_from_1 : (x : Spelled) → exists x ≡ true → (1 ≤ x.date.year) × (x.date.year ≤ 9998)
year_from_1 x e = (grind (arith, nat_tests), grind (arith, nat_tests))

offset_bound : (b : Bool) (n : ℕ) → n ≤ 86_400 → (neg_ℤ (pos 86_400) ≤ℤ (if b then neg_ℤ (pos n) else pos n)) × ((if b then neg_ℤ (pos n) else pos n) ≤ℤ pos 86_400)
offset_bound true n h = omega (arith, signed_arith, h)
offset_bound false n h = omega (arith, signed_arith, h)

offset_within : (x : Spelled) → exists x ≡ true → (neg_ℤ (pos 86_400) ≤ℤ (clock x).offset) × ((clock x).offset ≤ℤ pos 86_400)
offset_within x e =
    let hours : x.offset.hours ≤ 23 = grind (arith, nat_tests) in
    let minutes : x.offset.minutes ≤ 59 = grind (arith, nat_tests) in
    offset_bound x.offset.is_west (x.offset.hours * 3600 + x.offset.minutes * 60) (omega (arith, hours, minutes))

hours_by : (h : ℤ) → (int_le (neg_ℤ (pos 23)) h ≡ true) × (int_le h (pos 23) ≡ true) → (neg_ℤ (pos 23) ≤ℤ h) × (h ≤ℤ pos 23)
hours_by h e =
    let low : neg_ℤ (pos 23) ≤ℤ h = grind (arith, ints) in
    let high : h ≤ℤ pos 23 = grind (arith, ints) in
    (low, high)

hours_within : (h : ℤ) → is_zone h ≡ true → (neg_ℤ (pos 23) ≤ℤ h) × (h ≤ℤ pos 23)
hours_within h zone = hours_by h (and_parts _ _ zone)

shown_one : (x : Spelled) (pattern : Text) (h : ℤ) (t : Bool) → exists x ≡ true → is_zone h ≡ t
    → IsTheOne (λ a. MatchBool t ((z : Clock) × ShowsInstant (clock x) (h *ℤ pos 3600) z × (a ≡ as_text (printed z pattern))) (a ≡ Err TimezoneRange))
    (if t then as_text (printed (clock_at (instant (clock x)) (h *ℤ pos 3600)) pattern) else Err TimezoneRange)
shown_one x pattern h false there zone = same_one (Err TimezoneRange)
shown_one x pattern h true there zone =
    let c = clock x in
    let offset = h *ℤ pos 3600 in
    let year = year_from_1 x there in
    let at = instant_of_clock (instant c) offset (inside c (exists_clock x there) h (omega (arith, signed_arith, year)) (omega (arith, signed_arith, year)) (offset_within x there) (hours_within h zone)) in
    one (λ a. (z : Clock) × ShowsInstant c offset z × (a ≡ as_text (printed z pattern))) (as_text (printed (clock_at (instant c) offset) pattern)) (clock_at (instant c) offset, (at.0, refl, at.1), refl) unique
  where
    unique : (a : Answer) → (z : Clock) × ShowsInstant (clock x) (h *ℤ pos 3600) z × (a ≡ as_text (printed z pattern)) → a ≡ as_text (printed (clock_at (instant (clock x)) (h *ℤ pos 3600)) pattern)
    unique a (z, (is, offset, same), e) =
        e ∙ ap (λ w. as_text (printed w pattern)) (sym (clock_of_instant z is) ∙ ap (λ n. clock_at n z.offset) same ∙ ap (λ o. clock_at (instant (clock x)) o) offset)

-- what is printed by hours that may be no whole number
abbrev ByHours : Datum → Text → Option ℤ → Answer → Type 0
ByHours d p o a = ((o ≡ None) × (a ≡ Err InvalidArgument)) ⊎ ((h : ℤ) × (o ≡ Some h) × ByDate d (λ c. PrintsAt c p h) (Err InvalidInput) a)

zone_one : (d : Datum) (p : Text) (o : Option ℤ) → IsTheOne (ByHours d p o) (number_or_fault o >>= in_zone (date_of d) p)
zone_one d p None = one (ByHours d p None) (Err InvalidArgument) (inl (refl, refl)) unique
  where
    unique : (a : Answer) → ByHours d p None a → a ≡ Err InvalidArgument
    unique a (inl x) = x.1
    unique a (inr (h, e, t)) = absurd (some_other h e)
zone_one d p (Some h) = one (ByHours d p (Some h)) (in_zone (date_of d) p h) (inr (h, refl, (ones (in_zone (date_of d) p h)).1 refl)) unique
  where
    ones : IsTheOne (ByDate d (λ c. PrintsAt c p h) (Err InvalidInput)) (in_zone (date_of d) p h)
    ones = by_date_one d (λ c. PrintsAt c p h) (Err InvalidInput) (date_of d) (λ o. in_zone o p h) refl refl (λ x there. shown_one x p h (is_zone h) there refl)

    unique : (a : Answer) → ByHours d p (Some h) a → a ≡ in_zone (date_of d) p h
    unique a (inl x) = absurd (some_other h (sym x.0))
    unique a (inr (k, e, t)) = (ones a).0 (subst (λ j. ByDate d (λ c. PrintsAt c p j) (Err InvalidInput) a) (sym (from_some e)) t)

pub date_in_tz_is_one : DateInTzIsOne
date_in_tz_is_one d pattern hours args = zone_one d (text_of pattern) (whole hours)
