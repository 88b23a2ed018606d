-- A clock and its instant, one from the other.
use Rattle.std.proofs.Common.{◌≡◌, refl, sym, ap, subst, ◌∙◌, ℤ, pos, neg_ℤ, ◌+ℤ◌, ◌*ℤ◌, ◌≤ℤ◌, arith}
use Rattle.jiff_core.specs.declared.civil.datetime.DateTime.{DateTime}
use Rattle.jiff_core.specs.DateTime.{civil_nanos, IsCivilNanos}
use Rattle.jiff_core.specs.Timestamp.{nanos_of_seconds}
use Rattle.jiff_core.proofs.SignedLemmas.{signed_arith}
use Rattle.jiff_core.proofs.DateTimeLemmas.{civil_nanos-parts, time_nanos_bound}
use Rattle.liquid_filters.specs.Clock.{Clock, IsClock, clock_of, clock_nanos, instant}
use Rattle.liquid_filters.specs.Instant.{clock_after, clock_at}
use Rattle.liquid_filters.specs.DateLaws.{ClockOfInstant, InstantOfClock}
use Rattle.liquid_filters.proofs.Days.{moment}
use Rattle.liquid_filters.proofs.Instants.{days_inside}
use Rattle.liquid_filters.proofs.Moves.{after_is}

shown_by : (c : Clock) → IsClock c → DateTime
shown_by c is = record {
  date = record { year = c.year; month = c.month; day = c.day; year_in = is.year; month_in = is.month; day_in = is.day };
  time = record { hour = c.hour; minute = c.minute; second = c.second; subsec_nanosecond = c.nanosecond; hour_in = is.hour; minute_in = is.minute; second_in = is.second; subsec_in = is.nanosecond };
}

shown_nanos : (c : Clock) (is : IsClock c) → clock_nanos c ≡ civil_nanos (shown_by c is)
unfolding shown_by
shown_nanos c is = sym (civil_nanos-parts (shown_by c is))

shown_clock : (c : Clock) (is : IsClock c) → clock_of (shown_by c is) c.offset ≡ c
unfolding shown_by
shown_clock c is = refl

pub clock_of_instant : ClockOfInstant
clock_of_instant c is =
    let nanos : instant c +ℤ nanos_of_seconds c.offset ≡ civil_nanos (shown_by c is) = omega (arith, signed_arith, shown_nanos c is) in
    ap (λ n. clock_after n c.offset) nanos ∙ after_is (shown_by c is) c.offset ∙ shown_clock c is

-- a clock of the years from 1 to 9998 stays on the calendar at any other hours
pub inside : (c : Clock) → IsClock c → (h : ℤ) → pos 1 ≤ℤ c.year → c.year ≤ℤ pos 9998 → (neg_ℤ (pos 86_400) ≤ℤ c.offset) × (c.offset ≤ℤ pos 86_400) → (neg_ℤ (pos 23) ≤ℤ h) × (h ≤ℤ pos 23)
    → IsCivilNanos (instant c +ℤ nanos_of_seconds (h *ℤ pos 3600))
unfolding shown_by
inside c is h low high offset hours =
    let dt = shown_by c is in
    let days = days_inside dt.date low high in
    omega (arith, signed_arith, shown_nanos c is, civil_nanos-parts dt, time_nanos_bound dt.time, days, offset, hours)

clock_is : (dt : DateTime) (offset : ℤ) → IsClock (clock_of dt offset)
clock_is dt offset = record {
  year = dt.date.year_in;
  month = dt.date.month_in;
  day = dt.date.day_in;
  hour = dt.time.hour_in;
  minute = dt.time.minute_in;
  second = dt.time.second_in;
  nanosecond = dt.time.subsec_in;
}

instant_is : (dt : DateTime) (n offset : ℤ) → civil_nanos dt ≡ n +ℤ nanos_of_seconds offset → instant (clock_of dt offset) ≡ n
instant_is dt n offset at =
    let whole : clock_nanos (clock_of dt offset) ≡ civil_nanos dt = sym (civil_nanos-parts dt) in
    omega (arith, signed_arith, whole, at)

pub instant_of_clock : InstantOfClock
instant_of_clock n offset within =
    let (dt, at) = moment (n +ℤ nanos_of_seconds offset) within in
    let same : clock_of dt offset ≡ clock_at n offset = sym (after_is dt offset) ∙ ap (λ m. clock_after m offset) at in
    (subst (λ z. IsClock z) same (clock_is dt offset), ap instant (sym same) ∙ instant_is dt n offset at)
