-- The clock at an instant is the clock that jiff shows.
use Rattle.std.proofs.Common.{◌≡◌, inl, inr, refl, sym, ap, ◌∙◌, ℕ, zero, suc, ◌+◌, ◌-◌, ◌/◌, ◌%◌, ◌<◌, ◌≤◌, ℤ, pos, neg_ℤ, ◌+ℤ◌, ◌-ℤ◌, ◌<ℤ◌, ◌≤ℤ◌, int_le, unsigned_abs, true, false, rules, arith}
use Rattle.std.proofs.lemmas.Int.{by_lt_z, ints}
use Rattle.std.specs.Int.{int_rem_euclid}
use Rattle.jiff_core.specs.declared.civil.date.Date.{Date}
use Rattle.jiff_core.specs.declared.civil.time.Time.{Time}
use Rattle.jiff_core.specs.declared.civil.datetime.DateTime.{DateTime}
use Rattle.jiff_core.specs.Calendar.{days_from_civil, IsYear}
use Rattle.jiff_core.specs.Date.{epoch_day}
use Rattle.jiff_core.specs.DateTime.{civil_nanos}
use Rattle.jiff_core.specs.Time.{time_nanos}
use Rattle.jiff_core.specs.Timestamp.{nanos_of_seconds}
use Rattle.std.proofs.Common.{to_z, of_z, w8}
use Rattle.std.proofs.lemmas.Bool.{and_parts}
use Rattle.liquid_filters.specs.Dates.{is_zone}
use Rattle.jiff_core.proofs.SignedLemmas.{signed_arith, one_part, back_small}
use Rattle.jiff_core.proofs.CalendarLemmas.{days_in_month_bounds}
use Rattle.jiff_core.proofs.DateLemmas.{epoch_day-lt, days_from_civil-day}
use Rattle.jiff_core.proofs.IsoWeekLemmas.{epoch_day-year}
use Rattle.jiff_core.proofs.DateTimeLemmas.{civil_nanos-parts, epoch_day-civil_nanos, time_nanos_bound}
use Rattle.jiff_core.specs.declared.offset.Offset.{Offset}
use Rattle.jiff.specs.Words.{fixed_zone}
use Rattle.jiff_tz.specs.Zone.{offset_at}
use Rattle.jiff_zoned.specs.declared.zoned.Zoned.{Zoned as Plain}
use Rattle.liquid_filters.proofs.Instants.{fixed_offset}
use Rattle.liquid_filters.specs.Clock.{clock_of, instant, clock_nanos}
use Rattle.liquid_filters.specs.Instant.{year_at, month_at, year_of, month_of, clock_on, clock_after, clock_at}

first : (y : ℤ) → IsYear y → (m : ℕ) → (1 ≤ m) × (m ≤ 12) → Date
first y year m month =
    let long = days_in_month_bounds y m in
    record { year = y; month = m; day = 1; year_in = year; month_in = month; day_in = (omega arith, omega (arith, long)) }

-- a later year or month begins after the day
later_year : (d : Date) (y : ℤ) → IsYear y → d.year <ℤ y → epoch_day d <ℤ days_from_civil y 1 1
unfolding first
later_year d y year h = epoch_day-lt d (first y year 1 (search arith, search arith)) (inl h)

later_month : (d : Date) (m : ℕ) → (1 ≤ m) × (m ≤ 12) → d.month < m → epoch_day d <ℤ days_from_civil d.year m 1
unfolding first
later_month d m month h = epoch_day-lt d (first d.year d.year_in m month) (inr (refl, inl h))

pub le_yes : (x y : ℤ) → x ≤ℤ y → int_le x y ≡ true
le_yes x y h = grind (arith, ints)

pub le_no : (x y : ℤ) → y <ℤ x → int_le x y ≡ false
le_no x y h = grind (arith, ints)

begun : (d : Date) → days_from_civil d.year 1 1 ≤ℤ epoch_day d
begun d = (epoch_day-year d (d.year +ℤ pos 1) refl).0

year_is : (k : ℕ) (y : ℤ) (d : Date) → IsYear y → d.year ≤ℤ y → y ≤ℤ (d.year +ℤ pos k) → year_at k y (epoch_day d) ≡ d.year
unfolding year_at
year_is zero y d year low high = omega (arith, signed_arith)
year_is (suc k) y d year low high =
    by_lt_z d.year y
    (λ lt. rw (le_no _ _ (later_year d y year lt)) (year_is k (y -ℤ pos 1) d (omega (arith, signed_arith, d.year_in)) (omega (arith, signed_arith)) (omega (arith, signed_arith))))
    (λ ge. let same : y ≡ d.year = omega (arith, signed_arith) in rw (same, le_yes _ _ (begun d)) refl)

month_begun : (d : Date) → days_from_civil d.year d.month 1 ≤ℤ epoch_day d
month_begun d = omega (arith, signed_arith, d.day_in.0, days_from_civil-day d.year d.month 1 d.day (omega arith) d.day_in.0)

month_is : (k m : ℕ) (d : Date) → (1 ≤ m) × (m ≤ 12) → d.month ≤ m → m ≤ d.month + k → month_at k d.year m (epoch_day d) ≡ d.month
unfolding month_at
month_is zero m d month low high = omega arith
month_is (suc k) m d month low high =
    by_lt_z (pos d.month) (pos m)
    (λ lt. rw (le_no _ _ (later_month d m month (omega (arith, signed_arith)))) (month_is k (m - 1) d (omega (arith, signed_arith, d.month_in), omega (arith, signed_arith)) (omega (arith, signed_arith)) (omega (arith, signed_arith))))
    (λ ge. let same : m ≡ d.month = omega (arith, signed_arith) in rw (same, le_yes _ _ (month_begun d)) refl)

day_is : (d : Date) → unsigned_abs (epoch_day d -ℤ days_from_civil d.year d.month 1) + 1 ≡ d.day
day_is d = omega (arith, signed_arith, one_part (epoch_day d -ℤ days_from_civil d.year d.month 1), d.day_in.0, days_from_civil-day d.year d.month 1 d.day (omega arith) d.day_in.0)

rest_is : (dt : DateTime) → unsigned_abs (int_rem_euclid (civil_nanos dt) (pos 86_400_000_000_000)) ≡ time_nanos dt.time
rest_is dt = omega (arith, signed_arith, civil_nanos-parts dt, time_nanos_bound dt.time, one_part (int_rem_euclid (civil_nanos dt) (pos 86_400_000_000_000)))

hour_is : (t : Time) → time_nanos t / 3_600_000_000_000 ≡ t.hour
hour_is t = omega arith

minute_is : (t : Time) → time_nanos t / 60_000_000_000 % 60 ≡ t.minute
minute_is t = omega arith

second_is : (t : Time) → time_nanos t / 1_000_000_000 % 60 ≡ t.second
second_is t = omega arith

nanosecond_is : (t : Time) → time_nanos t % 1_000_000_000 ≡ t.subsec_nanosecond
nanosecond_is t = omega arith

on_is : (dt : DateTime) (offset : ℤ) → clock_on (epoch_day dt.date) dt.date.year dt.date.month (time_nanos dt.time) offset ≡ clock_of dt offset
on_is dt offset = rw (day_is dt.date, hour_is dt.time, minute_is dt.time, second_is dt.time, nanosecond_is dt.time) refl

pub after_is : (dt : DateTime) (offset : ℤ) → clock_after (civil_nanos dt) offset ≡ clock_of dt offset
after_is dt offset =
    let year : year_of (epoch_day dt.date) ≡ dt.date.year = year_is 19_998 (pos 9999) dt.date (search rules) (omega (arith, signed_arith, dt.date.year_in)) (omega (arith, signed_arith, dt.date.year_in)) in
    let month : month_of dt.date.year (epoch_day dt.date) ≡ dt.date.month = month_is 11 12 dt.date (search arith, search arith) dt.date.month_in.1 (omega (arith, dt.date.month_in)) in
    rw (sym (epoch_day-civil_nanos dt), year, month, rest_is dt) (on_is dt offset)

instant_is : (z : Plain) → instant (clock_of z.datetime z.offset.seconds) ≡ z.timestamp.nanosecond
instant_is z =
    let whole : clock_nanos (clock_of z.datetime z.offset.seconds) ≡ civil_nanos z.datetime = sym (civil_nanos-parts z.datetime) in
    omega (arith, signed_arith, whole, z.shows)

-- the same instant at another offset
pub moved_is : (z w : Plain) (o : Offset) (seconds : ℤ) → w.timestamp ≡ z.timestamp → w.time_zone ≡ fixed_zone o → o.seconds ≡ seconds
    → clock_of w.datetime w.offset.seconds ≡ clock_at (instant (clock_of z.datetime z.offset.seconds)) seconds
moved_is z w o seconds at zone same =
    let offset : w.offset.seconds ≡ seconds = w.offset_is ∙ ap (λ t. offset_at t w.timestamp.nanosecond) zone ∙ fixed_offset o w.timestamp.nanosecond ∙ same in
    let nanos : civil_nanos w.datetime ≡ instant (clock_of z.datetime z.offset.seconds) +ℤ nanos_of_seconds seconds =
    w.shows ∙ ap (λ t. t.nanosecond +ℤ nanos_of_seconds w.offset.seconds) at ∙ ap (λ s. z.timestamp.nanosecond +ℤ nanos_of_seconds s) offset ∙ ap (λ n. n +ℤ nanos_of_seconds seconds) (sym (instant_is z)) in
    ap (λ s. clock_of w.datetime s) offset ∙ sym (after_is w.datetime seconds) ∙ ap (λ n. clock_after n seconds) nanos

bounded : (h : ℤ) → (int_le (neg_ℤ (pos 23)) h ≡ true) × (int_le h (pos 23) ≡ true) → unsigned_abs h < 128
bounded h e =
    let low : neg_ℤ (pos 23) ≤ℤ h = grind (arith, ints) in
    let high : h ≤ℤ pos 23 = grind (arith, ints) in
    omega (arith, signed_arith, one_part h)

-- the hours of a zone fit a small number
pub small_hours : (h : ℤ) → is_zone h ≡ true → to_z w8 (of_z w8 h) ≡ h
small_hours h zone = back_small w8 h (bounded h (and_parts _ _ zone))
