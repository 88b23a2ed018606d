-- Each day and each moment of the calendar's years has a date and a time.
use Rattle.std.proofs.Common.{◌≡◌, refl, ap, ℕ, zero, suc, ◌+◌, ◌-◌, ◌/◌, ◌%◌, ◌<◌, ◌≤◌, ℤ, pos, neg_ℤ, ◌+ℤ◌, ◌-ℤ◌, ◌<ℤ◌, unsigned_abs, rules, arith}
use Rattle.std.proofs.lemmas.Int.{by_lt_z}
use Rattle.std.specs.Int.{int_div_euclid, int_rem_euclid}
use Rattle.jiff_core.specs.declared.civil.date.Date.{Date}
use Rattle.jiff_core.specs.declared.civil.time.Time.{Time}
use Rattle.jiff_core.specs.declared.civil.datetime.DateTime.{DateTime}
use Rattle.jiff_core.specs.Calendar.{days_from_civil, days_in_month, IsEpochDay}
use Rattle.jiff_core.specs.Date.{epoch_day}
use Rattle.jiff_core.specs.DateTime.{civil_nanos, IsCivilNanos}
use Rattle.jiff_core.specs.Time.{time_nanos}
use Rattle.jiff_core.proofs.SignedLemmas.{signed_arith, one_part}
use Rattle.jiff_core.proofs.CalendarLemmas.{days_in_month_bounds}
use Rattle.jiff_core.proofs.DateLemmas.{days_from_civil-day, days_from_civil-min, days_from_civil-max, days_from_civil-next_month, days_from_civil-next_year}
use Rattle.jiff_core.proofs.DateTimeLemmas.{civil_nanos-parts}

first_day : Date
first_day = record { year = neg_ℤ (pos 9999); month = 1; day = 1; year_in = search rules; month_in = search rules; day_in = search rules }

-- the date after d, where the years go on
abbrev Next : Date → Type 0
Next d = (e : Date) × (epoch_day e ≡ epoch_day d +ℤ pos 1)

next_in_month : (d : Date) → d.day < days_in_month d.year d.month → Next d
next_in_month d h = (
  record { year = d.year; month = d.month; day = d.day + 1; year_in = d.year_in; month_in = d.month_in; day_in = (omega arith, omega (arith, h)) },
  omega (arith, signed_arith, days_from_civil-day d.year d.month (d.day + 1) d.day (omega arith) d.day_in.0),
)

next_in_year : (d : Date) → days_in_month d.year d.month ≤ d.day → d.month < 12 → Next d
next_in_year d last h =
    let long = days_in_month_bounds d.year (d.month + 1) in
    let whole : d.day ≡ days_in_month d.year d.month = omega (arith, last, d.day_in.1) in (
      record { year = d.year; month = d.month + 1; day = 1; year_in = d.year_in; month_in = (omega arith, omega (arith, h)); day_in = (omega arith, omega (arith, long)) },
      days_from_civil-next_month d.year d.month d.day d.month_in.0 whole,
    )

last_of_december : (d : Date) → days_in_month d.year d.month ≤ d.day → 12 ≤ d.month → (d.month ≡ 12) × (d.day ≡ 31)
last_of_december d last h =
    let month : d.month ≡ 12 = omega (arith, h, d.month_in.1) in
    let long : days_in_month d.year d.month ≡ 31 = ap (λ m. days_in_month d.year m) month in
    (month, omega (arith, last, d.day_in.1, long))

next_year : (d : Date) → days_in_month d.year d.month ≤ d.day → 12 ≤ d.month → d.year <ℤ pos 9999 → Next d
next_year d last h low =
    let end = last_of_december d last h in (
      record { year = d.year +ℤ pos 1; month = 1; day = 1; year_in = omega (arith, signed_arith, d.year_in, low); month_in = (omega arith, omega arith); day_in = (omega arith, omega arith) },
      rw (end.0, end.1) (days_from_civil-next_year d.year (d.year +ℤ pos 1) (omega (arith, signed_arith, d.year_in)) refl),
    )

-- only the last day of the years has none after it
next : (d : Date) → epoch_day d <ℤ pos 2_932_896 → Next d
next d before =
    by_lt_z (pos d.day) (pos (days_in_month d.year d.month))
    (λ lt. next_in_month d (omega (arith, signed_arith, lt)))
    (λ last. by_lt_z (pos d.month) (pos 12)
    (λ lt. next_in_year d (omega (arith, signed_arith, last)) (omega (arith, signed_arith, lt)))
    (λ december. by_lt_z d.year (pos 9999)
    (λ lt. next_year d (omega (arith, signed_arith, last)) (omega (arith, signed_arith, december)) lt)
    (λ year.
    let end = last_of_december d (omega (arith, signed_arith, last)) (omega (arith, signed_arith, december)) in
    let nines : d.year ≡ pos 9999 = omega (arith, signed_arith, year, d.year_in) in
    let is : epoch_day d ≡ pos 2_932_896 = rw (nines, end.0, end.1) days_from_civil-max in
    absurd (omega (arith, signed_arith, is, before)))))

-- so many days after the first
day_after : (k : ℕ) → k ≤ 7_304_483 → (d : Date) × (epoch_day d ≡ pos k -ℤ pos 4_371_587)
unfolding first_day
day_after zero h = (first_day, omega (arith, signed_arith, days_from_civil-min))
day_after (suc k) h =
    let (d, is) = day_after k (omega (arith, h)) in
    let (e, later) = next d (omega (arith, signed_arith, is, h)) in
    (e, omega (arith, signed_arith, is, later))

pub date_on : (n : ℤ) → IsEpochDay n → (d : Date) × (epoch_day d ≡ n)
date_on n within =
    let k = unsigned_abs (n +ℤ pos 4_371_587) in
    let same = one_part (n +ℤ pos 4_371_587) in
    let (d, is) = day_after k (omega (arith, signed_arith, same, within)) in
    (d, omega (arith, signed_arith, is, same, within))

pub time_after : (rest : ℕ) → rest < 86_400_000_000_000 → (t : Time) × (time_nanos t ≡ rest)
time_after rest h = (
  record {
    hour = rest / 3_600_000_000_000;
    minute = rest / 60_000_000_000 % 60;
    second = rest / 1_000_000_000 % 60;
    subsec_nanosecond = rest % 1_000_000_000;
    hour_in = omega (arith, h);
    minute_in = omega arith;
    second_in = omega arith;
    subsec_in = omega arith;
  },
  omega (arith, h),
)

pub moment : (n : ℤ) → IsCivilNanos n → (dt : DateTime) × (civil_nanos dt ≡ n)
moment n within =
    let day = int_div_euclid n (pos 86_400_000_000_000) in
    let left = int_rem_euclid n (pos 86_400_000_000_000) in
    let rest = unsigned_abs left in
    let (d, on) = date_on day (omega (arith, signed_arith, within)) in
    let (t, at) = time_after rest (omega (arith, signed_arith, one_part left)) in
    let dt : DateTime = record { date = d; time = t } in
    (dt, omega (arith, signed_arith, civil_nanos-parts dt, on, at, one_part left))
