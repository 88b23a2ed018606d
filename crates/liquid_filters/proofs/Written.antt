-- Each date that is written so is read so.
use Rattle.std.proofs.Common.{◌≡◌, refl, ℕ, zero, suc, pos, ◌+◌, ◌-◌, ◌*◌, ◌/◌, ◌%◌, ◌==◌, ◌<◌, ◌≤◌, Bool, true, false, List, [], ◌∷◌, ◌++◌, Some, None, arith}
use Rattle.std.proofs.lemmas.Bool.Decides.{nat_tests}
use Rattle.std.specs.Char.{is_ascii_digit}
use Rattle.liquid_filters.specs.WrittenDates.{two_digits, four_digits, letters, named_written, plain_written, short_written, time_written, sign_of, offset_written, date_written}
use Rattle.liquid_filters.specs.DateSpelling.{clock, digit, exists, two, four, past_date_byte, one_or_two, month, named_day, plain_day, read, Day, Time, time, sign, offset, Offset, read_spelled_date, Spelled}
use Rattle.liquid_filters.specs.DateLaws.{NamedIsRead, PlainIsRead, ShortIsRead}
use Rattle.jiff_core.proofs.CalendarLemmas.{days_in_month_bounds}

is_digit : (a : ℕ) → a < 10 → is_ascii_digit (48 + a) ≡ true
is_digit a h = grind (arith, nat_tests)

digit_read : (a : ℕ) (s : List ℕ) → a < 10 → digit ((48 + a) ∷ s) ≡ Some (a, s)
digit_read a s h = let same : 48 + a - 48 ≡ a = omega arith in rw (is_digit a h, same) refl

two_by : (n a b : ℕ) (s : List ℕ) → a < 10 → b < 10 → a * 10 + b ≡ n → two ((48 + a) ∷ (48 + b) ∷ s) ≡ Some (n, s)
unfolding two
two_by n a b s h k e =
    let first : 48 + a - 48 ≡ a = omega arith in
    let second : 48 + b - 48 ≡ b = omega arith in
    rw (is_digit a h, is_digit b k, first, second, e) refl

pub two_read : (n : ℕ) (s : List ℕ) → n < 100 → two (two_digits n s) ≡ Some (n, s)
two_read n s h = two_by n (n / 10) (n % 10) s (omega arith) (omega arith) (omega arith)

pub four_read : (n : ℕ) (s : List ℕ) → n < 10000 → four (four_digits n s) ≡ Some (n, s)
unfolding four
four_read n s h =
    let e : n / 100 * 100 + n % 100 ≡ n = omega arith in
    rw (two_read (n / 100) (two_digits (n % 100) s) (omega arith), two_read (n % 100) s (omega arith), e) refl

pub plain_read : (d : Day) (s : List ℕ) → d.year < 10000 → d.month < 100 → d.day < 100 → plain_day (plain_written d s) ≡ Some (d, s)
unfolding plain_day
plain_read d s y m k =
    rw (four_read d.year (45 ∷ two_digits d.month (45 ∷ two_digits d.day s)) y, two_read d.month (45 ∷ two_digits d.day s) m, two_read d.day s k) refl

pub time_read : (t : Time) (s : List ℕ) → t.hour < 100 → t.minute < 100 → t.second < 100 → time (time_written t s) ≡ Some (t, s)
unfolding time
time_read t s h m x =
    rw (two_read t.hour (58 ∷ two_digits t.minute (58 ∷ two_digits t.second s)) h, two_read t.minute (58 ∷ two_digits t.second s) m, two_read t.second s x) refl

sign_read : (b : Bool) (s : List ℕ) → sign (sign_of b ∷ s) ≡ Some (b, s)
sign_read true s = refl
sign_read false s = refl

pub offset_read : (o : Offset) (s : List ℕ) → o.hours < 100 → o.minutes < 100 → offset (offset_written o s) ≡ Some (o, s)
unfolding offset
offset_read o s h m =
    rw (sign_read o.is_west (two_digits o.hours (two_digits o.minutes s)), two_read o.hours (two_digits o.minutes s) h, two_read o.minutes s m) refl

-- an ordinary date is no day with a month's name: its third byte is a digit
no_space : (a : ℕ) (s : List ℕ) → a < 10 → past_date_byte 32 ((48 + a) ∷ s) ≡ None
no_space a s h = let differs : ((48 + a) == 32) ≡ false = grind (arith, nat_tests) in rw differs refl

named_by : (a b c : ℕ) (s : List ℕ) → a < 10 → b < 10 → c < 10 → named_day ((48 + a) ∷ (48 + b) ∷ (48 + c) ∷ s) ≡ None
unfolding named_day one_or_two
named_by a b c s h k l = rw (digit_read a ((48 + b) ∷ (48 + c) ∷ s) h, digit_read b ((48 + c) ∷ s) k, no_space c s l) refl

spelled_read : (x : Spelled) → x.date.year < 10000 → x.date.month < 100 → x.date.day < 100 → x.time.hour < 100 → x.time.minute < 100 → x.time.second < 100 → x.offset.hours < 100 → x.offset.minutes < 100
    → read_spelled_date (plain_written x.date (32 ∷ time_written x.time (32 ∷ offset_written x.offset []))) ≡ Some x
unfolding read_spelled_date
spelled_read x y m d h n s o q =
    let after = 32 ∷ time_written x.time (32 ∷ offset_written x.offset []) in
    let named : named_day (plain_written x.date after) ≡ None = named_by (x.date.year / 100 / 10) (x.date.year / 100 % 10) (x.date.year % 100 / 10) _ (omega arith) (omega arith) (omega arith) in
    rw (named, plain_read x.date after y m d, time_read x.time (32 ∷ offset_written x.offset []) h n s, offset_read x.offset [] o q) refl

-- ---- days with the letters of a month
by_months : (P : ℕ → Type 0) → P 1 → P 2 → P 3 → P 4 → P 5 → P 6 → P 7 → P 8 → P 9 → P 10 → P 11 → P 12 → (m : ℕ) → 1 ≤ m → m ≤ 12 → P m
by_months P a b c d e f g h i j k l zero low high = absurd (omega arith)
by_months P a b c d e f g h i j k l (suc zero) low high = a
by_months P a b c d e f g h i j k l (suc (suc zero)) low high = b
by_months P a b c d e f g h i j k l (suc (suc (suc zero))) low high = c
by_months P a b c d e f g h i j k l (suc (suc (suc (suc zero)))) low high = d
by_months P a b c d e f g h i j k l (suc (suc (suc (suc (suc zero))))) low high = e
by_months P a b c d e f g h i j k l (suc (suc (suc (suc (suc (suc zero)))))) low high = f
by_months P a b c d e f g h i j k l (suc (suc (suc (suc (suc (suc (suc zero))))))) low high = g
by_months P a b c d e f g h i j k l (suc (suc (suc (suc (suc (suc (suc (suc zero)))))))) low high = h
by_months P a b c d e f g h i j k l (suc (suc (suc (suc (suc (suc (suc (suc (suc zero))))))))) low high = i
by_months P a b c d e f g h i j k l (suc (suc (suc (suc (suc (suc (suc (suc (suc (suc zero)))))))))) low high = j
by_months P a b c d e f g h i j k l (suc (suc (suc (suc (suc (suc (suc (suc (suc (suc (suc zero))))))))))) low high = k
by_months P a b c d e f g h i j k l (suc (suc (suc (suc (suc (suc (suc (suc (suc (suc (suc (suc zero)))))))))))) low high = l
by_months P a b c d e f g h i j k l (suc (suc (suc (suc (suc (suc (suc (suc (suc (suc (suc (suc (suc n))))))))))))) low high = absurd (omega arith)

month_read : (m : ℕ) (s : List ℕ) → 1 ≤ m → m ≤ 12 → month (letters m ++ s) ≡ Some (m, s)
unfolding month
month_read m s low high = by_months (λ n. month (letters n ++ s) ≡ Some (n, s)) refl refl refl refl refl refl refl refl refl refl refl refl m low high

two_or_one : (n : ℕ) (s : List ℕ) → n < 100 → one_or_two (two_digits n s) ≡ Some (n, s)
unfolding one_or_two
two_or_one n s h =
    let first : 48 + n / 10 - 48 ≡ n / 10 = omega arith in
    let second : 48 + n % 10 - 48 ≡ n % 10 = omega arith in
    let whole : n / 10 * 10 + n % 10 ≡ n = omega arith in
    rw (is_digit (n / 10) (omega arith), is_digit (n % 10) (omega arith), first, second, whole) refl

one_alone : (n : ℕ) (s : List ℕ) → n < 10 → one_or_two ((48 + n) ∷ 32 ∷ s) ≡ Some (n, 32 ∷ s)
unfolding one_or_two
one_alone n s h = rw (digit_read n (32 ∷ s) h) refl

named_read : (d : Day) (s : List ℕ) → d.day < 100 → 1 ≤ d.month → d.month ≤ 12 → d.year < 10000 → named_day (named_written d s) ≡ Some (d, s)
unfolding named_day
named_read d s k low high y =
    let after = 32 ∷ four_digits d.year s in
    rw (two_or_one d.day (32 ∷ (letters d.month ++ after)) k, month_read d.month after low high, four_read d.year s y) refl

short_read : (d : Day) (s : List ℕ) → d.day < 10 → 1 ≤ d.month → d.month ≤ 12 → d.year < 10000 → named_day (short_written d s) ≡ Some (d, s)
unfolding named_day
short_read d s k low high y =
    let after = 32 ∷ four_digits d.year s in
    rw (one_alone d.day (letters d.month ++ after) k, month_read d.month after low high, four_read d.year s y) refl

spelled_by : (x : Spelled) (day : Day → List ℕ → List ℕ) → named_day (date_written day x) ≡ Some (x.date, 32 ∷ time_written x.time (32 ∷ offset_written x.offset []))
    → x.time.hour < 100 → x.time.minute < 100 → x.time.second < 100 → x.offset.hours < 100 → x.offset.minutes < 100 → read_spelled_date (date_written day x) ≡ Some x
unfolding read_spelled_date
spelled_by x day e h n s o q = rw (e, time_read x.time (32 ∷ offset_written x.offset []) h n s, offset_read x.offset [] o q) refl

-- ---- dates that exist
record Within (x : Spelled) : Type 0 where
  year : x.date.year < 10000
  month_low : 1 ≤ x.date.month
  month_high : x.date.month ≤ 12
  day : x.date.day < 100
  hour : x.time.hour < 100
  minute : x.time.minute < 100
  second : x.time.second < 100
  hours : x.offset.hours < 100
  minutes : x.offset.minutes < 100

within : (x : Spelled) → exists x ≡ true → Within x
within x e =
    let long = days_in_month_bounds (pos x.date.year) x.date.month in
    record {
      year = grind (arith, nat_tests);
      month_low = grind (arith, nat_tests);
      month_high = grind (arith, nat_tests);
      day = grind (arith, nat_tests, long);
      hour = grind (arith, nat_tests);
      minute = grind (arith, nat_tests);
      second = grind (arith, nat_tests);
      hours = grind (arith, nat_tests);
      minutes = grind (arith, nat_tests);
    }

exists_read : (x : Spelled) (s : List ℕ) → exists x ≡ true → read_spelled_date s ≡ Some x → read s ≡ Some (clock x)
unfolding read
exists_read x s e h = rw (h, e) refl

pub plain_is_read : PlainIsRead
plain_is_read x e =
    let w = within x e in
    exists_read x (date_written plain_written x) e (spelled_read x w.year (omega (arith, w.month_high)) w.day w.hour w.minute w.second w.hours w.minutes)

pub named_is_read : NamedIsRead
named_is_read x e =
    let w = within x e in
    let after = 32 ∷ time_written x.time (32 ∷ offset_written x.offset []) in
    exists_read x (date_written named_written x) e
    (spelled_by x named_written (named_read x.date after w.day w.month_low w.month_high w.year) w.hour w.minute w.second w.hours w.minutes)

pub short_is_read : ShortIsRead
short_is_read x e l =
    let w = within x e in
    let after = 32 ∷ time_written x.time (32 ∷ offset_written x.offset []) in
    exists_read x (date_written short_written x) e
    (spelled_by x short_written (short_read x.date after l w.month_low w.month_high w.year) w.hour w.minute w.second w.hours w.minutes)
