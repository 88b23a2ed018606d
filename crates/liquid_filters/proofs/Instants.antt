-- A clock names one instant, and an instant one clock at an offset.
use Rattle.std.proofs.Common.{◌≡◌, inl, refl, ap, ◌∙◌, ℤ, pos, neg_ℤ, ◌-ℤ◌, ◌<ℤ◌, ◌≤ℤ◌, Bool, true, false, rules, arith}
use Rattle.std.proofs.lemmas.Int.{ints}
use Rattle.std.specs.Ordering.{int_eq}
use Rattle.jiff_core.specs.declared.civil.date.Date.{Date}
use Rattle.jiff_core.specs.declared.civil.datetime.DateTime.{DateTime}
use Rattle.jiff_core.specs.declared.offset.Offset.{Offset}
use Rattle.jiff_core.specs.Date.{epoch_day}
use Rattle.jiff_core.specs.DateTime.{civil_nanos}
use Rattle.jiff_core.specs.Timestamp.{nanos_of_seconds, IsTimestampNanos}
use Rattle.jiff_core.proofs.SignedLemmas.{signed_arith}
use Rattle.jiff_core.proofs.DateLemmas.{epoch_day-lt, epoch_day_injective, days_from_civil-min, days_from_civil-max, days_from_civil-day}
use Rattle.jiff_core.proofs.DateTimeLemmas.{civil_nanos-parts, civil_nanos_injective, time_nanos_injective, time_nanos_bound}
use Rattle.jiff.specs.Placed.{fixed_zone}
use Rattle.jiff_tz.specs.Zone.{offset_at}
use Rattle.jiff_zoned.specs.declared.zoned.Zoned.{Zoned as Plain}
use Rattle.liquid_filters.specs.Clock.{clock_of}

-- days a month inside the ends
early : Date
early = record { year = neg_ℤ (pos 9999); month = 1; day = 31; year_in = search rules; month_in = search rules; day_in = search rules }

late : Date
late = record { year = pos 9999; month = 12; day = 1; year_in = search rules; month_in = search rules; day_in = search rules }

early_day : epoch_day early ≡ neg_ℤ (pos 4_371_557)
unfolding early
early_day = omega (arith, signed_arith, days_from_civil-min, days_from_civil-day (neg_ℤ (pos 9999)) 1 1 31 (omega arith) (omega arith))

late_day : epoch_day late ≡ pos 2_932_866
unfolding late
late_day = omega (arith, signed_arith, days_from_civil-max, days_from_civil-day (pos 9999) 12 31 1 (omega arith) (omega arith))

after_early : (d : Date) → pos 1 ≤ℤ d.year → epoch_day early <ℤ epoch_day d
unfolding early
after_early d low = epoch_day-lt early d (inl (omega (arith, signed_arith)))

before_late : (d : Date) → d.year ≤ℤ pos 9998 → epoch_day d <ℤ epoch_day late
unfolding late
before_late d high = epoch_day-lt d late (inl (omega (arith, signed_arith)))

pub days_inside : (d : Date) → pos 1 ≤ℤ d.year → d.year ≤ℤ pos 9998 → (neg_ℤ (pos 4_371_557) <ℤ epoch_day d) × (epoch_day d <ℤ pos 2_932_866)
days_inside d low high = (omega (arith, signed_arith, after_early d low, early_day), omega (arith, signed_arith, before_late d high, late_day))

-- such a datetime is an instant at any offset
pub in_range : (dt : DateTime) (o : Offset) → pos 1 ≤ℤ dt.date.year → dt.date.year ≤ℤ pos 9998 → IsTimestampNanos (civil_nanos dt -ℤ nanos_of_seconds o.seconds)
in_range dt o low high =
    omega (arith, signed_arith, civil_nanos-parts dt, time_nanos_bound dt.time, after_early dt.date low, before_late dt.date high, early_day, late_day, o.in_range)

pub same_clock : (a b : DateTime) (o p : ℤ) → civil_nanos a ≡ civil_nanos b → o ≡ p → clock_of a o ≡ clock_of b p
same_clock a b o p e same =
    let parts = civil_nanos_injective a b e in
    let d = epoch_day_injective a.date b.date parts.0 in
    let t = time_nanos_injective a.time b.time parts.1 in
    rw (d.0, d.1, d.2, t.0, t.1, t.2, t.3, same) refl

-- a fixed offset is the zone's at each instant
fixed_by : (o : Offset) (n : ℤ) (b : Bool) → int_eq o.seconds (pos 0) ≡ b → offset_at (fixed_zone o) n ≡ o.seconds
unfolding offset_at
fixed_by o n true e = rw e (grind (arith, ints))
fixed_by o n false e = rw e refl

pub fixed_offset : (o : Offset) (n : ℤ) → offset_at (fixed_zone o) n ≡ o.seconds
fixed_offset o n = fixed_by o n (int_eq o.seconds (pos 0)) refl

-- the offset that an instant is shown at in the zone of a fixed offset
pub at_fixed : (z : Plain) (o : Offset) → z.time_zone ≡ fixed_zone o → z.offset.seconds ≡ o.seconds
at_fixed z o zone = z.offset_is ∙ ap (λ t. offset_at t z.timestamp.nanosecond) zone ∙ fixed_offset o z.timestamp.nanosecond

-- the clock of an instant in the zone of a fixed offset
pub shows_at : (z : Plain) (dt : DateTime) (o : Offset) → z.time_zone ≡ fixed_zone o → z.timestamp.nanosecond ≡ civil_nanos dt -ℤ nanos_of_seconds o.seconds
    → clock_of z.datetime z.offset.seconds ≡ clock_of dt o.seconds
shows_at z dt o zone at =
    let same : z.offset.seconds ≡ o.seconds = at_fixed z o zone in
    same_clock z.datetime dt z.offset.seconds o.seconds (omega (arith, signed_arith, z.shows, at, same)) same
