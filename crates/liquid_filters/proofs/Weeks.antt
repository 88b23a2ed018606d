-- A week date of a day has the year and the week that the definition gives.
use Rattle.std.proofs.Common.{◌≡◌, ℕ, ◌+◌, ◌-◌, ◌*◌, ◌/◌, unsigned_abs, ◌<◌, ◌≤◌, refl, arith, rules, ℤ, pos, neg_ℤ, ◌+ℤ◌, ◌-ℤ◌, ◌<ℤ◌, ◌≤ℤ◌, int_lt, true, false}
use Rattle.std.proofs.lemmas.Int.{by_lt_z, ints}
use Rattle.jiff_core.specs.Calendar.{iso_year_start, IsBetween, IsYear}
use Rattle.jiff_core.specs.declared.civil.date.Date.{Date}
use Rattle.jiff_core.specs.declared.civil.weekday.Weekday.{Weekday}
use Rattle.jiff_core.specs.declared.civil.weekday.Weekday.TheVariants.{Monday, Tuesday, Wednesday, Thursday, Friday, Saturday, Sunday}
use Rattle.jiff_core.specs.declared.civil.iso_week_date.ISOWeekDate.{ISOWeekDate}
use Rattle.jiff_core.specs.Date.{epoch_day}
use Rattle.jiff_core.specs.Weekday.{monday_zero}
use Rattle.jiff_core.specs.IsoWeek.{days_from_iso}
use Rattle.jiff_core.specs.IsoWeekDate.{iso_epoch_day}
use Rattle.jiff_core.proofs.SignedLemmas.{signed_arith, one_part}
use Rattle.jiff_core.proofs.CalendarLemmas.{days_from_civil-day_count, day_count-lt_year, day_count-last_of_year, days_in_year_bounds}
use Rattle.jiff_core.proofs.IsoWeekLemmas.{weeks_in_year-next, iso_year_start_near, in_year_before, in_year_after, in_year_last}
use Rattle.liquid_filters.specs.Clock.{week_year_of, week_of}
use Rattle.liquid_filters.proofs.Moves.{le_yes, le_no}

monday_zero_bound : (w : Weekday) → monday_zero w < 7
monday_zero_bound Monday = search arith
monday_zero_bound Tuesday = search arith
monday_zero_bound Wednesday = search arith
monday_zero_bound Thursday = search arith
monday_zero_bound Friday = search arith
monday_zero_bound Saturday = search arith
monday_zero_bound Sunday = search arith

-- years that come later begin later
starts_later : (y z : ℤ) → IsYear y → IsBetween (neg_ℤ (pos 9999)) (pos 10000) z → y <ℤ z → iso_year_start y <ℤ iso_year_start z
starts_later y z year range lt =
    let near = iso_year_start_near y (omega (arith, signed_arith)) in
    let far = iso_year_start_near z range in
    let long = days_in_year_bounds y in
    omega (arith, signed_arith, near, far, long, day_count-last_of_year y, days_from_civil-day_count, day_count-lt_year y 12 31 z 1 1 (year, (search rules, search rules), (search rules, search rules)) (omega arith) lt)

starts_in_order : (y z : ℤ) → IsYear y → IsBetween (neg_ℤ (pos 9999)) (pos 10000) z → y ≤ℤ z → iso_year_start y ≤ℤ iso_year_start z
starts_in_order y z year range le =
    by_lt_z y z (λ lt. omega (arith, signed_arith, starts_later y z year range lt))
    (λ ge. let same : y ≡ z = omega (arith, signed_arith) in rw same (omega (arith, signed_arith)))

-- a week date lies in its year
lies : (i : ISOWeekDate) → (iso_year_start i.year ≤ℤ iso_epoch_day i) × (iso_epoch_day i <ℤ iso_year_start (i.year +ℤ pos 1))
unfolding days_from_iso
lies i =
    let next = weeks_in_year-next i.year (i.year +ℤ pos 1) i.year_in refl in
    let bound = monday_zero_bound i.weekday in
    (omega (arith, signed_arith), omega (arith, signed_arith, next.0, i.week_in))

days_are : (i : ISOWeekDate) → iso_epoch_day i ≡ iso_year_start i.year +ℤ pos ((i.week - 1) * 7 + monday_zero i.weekday)
unfolding days_from_iso
days_are i = refl

week_by : (start n : ℤ) (w k : ℕ) → n ≡ start +ℤ pos ((w - 1) * 7 + k) → k < 7 → 1 ≤ w → w ≡ unsigned_abs (n -ℤ start) / 7 + 1
week_by start n w k e b l = omega (arith, signed_arith, one_part (n -ℤ start))

pub week_is : (i : ISOWeekDate) (year day : ℤ) → iso_epoch_day i ≡ day → i.year ≡ year → i.week ≡ week_of year day
week_is i year day e same = rw (← e, ← same) (week_by _ _ _ _ (days_are i) (monday_zero_bound i.weekday) i.week_in.0)

before : (d : Date) (y start : ℤ) → start ≡ iso_year_start d.year → IsYear y → iso_year_start y ≤ℤ epoch_day d → epoch_day d <ℤ iso_year_start (y +ℤ pos 1)
    → epoch_day d <ℤ iso_year_start d.year → y ≡ d.year -ℤ pos 1
before d y start e year low high early =
    let prior = in_year_before d (d.year -ℤ pos 1) (omega (arith, signed_arith)) early in
    by_lt_z y (d.year -ℤ pos 1)
    (λ lt. absurd (omega (arith, signed_arith, prior.1, starts_in_order (y +ℤ pos 1) (d.year -ℤ pos 1) (omega (arith, signed_arith, d.year_in)) (omega (arith, signed_arith, d.year_in)) (omega (arith, signed_arith)))))
    (λ ge. by_lt_z (d.year -ℤ pos 1) y
    (λ gt. absurd (omega (arith, signed_arith, starts_in_order d.year y d.year_in (omega (arith, signed_arith)) (omega (arith, signed_arith)))))
    (λ le. omega (arith, signed_arith)))

during : (d : Date) (y : ℤ) → IsYear y → iso_year_start y ≤ℤ epoch_day d → epoch_day d <ℤ iso_year_start (y +ℤ pos 1)
    → iso_year_start d.year ≤ℤ epoch_day d → epoch_day d <ℤ iso_year_start (d.year +ℤ pos 1) → y ≡ d.year
during d y year low high from until =
    by_lt_z y d.year
    (λ lt. absurd (omega (arith, signed_arith, starts_in_order (y +ℤ pos 1) d.year (omega (arith, signed_arith, d.year_in)) (omega (arith, signed_arith, d.year_in)) (omega (arith, signed_arith)))))
    (λ ge. by_lt_z d.year y
    (λ gt. absurd (omega (arith, signed_arith, starts_in_order (d.year +ℤ pos 1) y (omega (arith, signed_arith, d.year_in)) (omega (arith, signed_arith)) (omega (arith, signed_arith)))))
    (λ le. omega (arith, signed_arith)))

after : (d : Date) (y : ℤ) → IsYear y → iso_year_start y ≤ℤ epoch_day d → epoch_day d <ℤ iso_year_start (y +ℤ pos 1)
    → iso_year_start (d.year +ℤ pos 1) ≤ℤ epoch_day d → y ≡ d.year +ℤ pos 1
after d y year low high late =
    let apart : ¬ (d.year ≡ pos 9999) = λ last. omega (arith, signed_arith, in_year_last d (d.year +ℤ pos 1) (rw last refl)) in
    let next : IsYear (d.year +ℤ pos 1) = omega (arith, signed_arith, d.year_in) in
    let until = in_year_after d (d.year +ℤ pos 1) next refl in
    by_lt_z y (d.year +ℤ pos 1)
    (λ lt. absurd (omega (arith, signed_arith, starts_in_order (y +ℤ pos 1) (d.year +ℤ pos 1) (omega (arith, signed_arith, d.year_in)) (omega (arith, signed_arith, d.year_in)) (omega (arith, signed_arith)))))
    (λ ge. by_lt_z (d.year +ℤ pos 1) y
    (λ gt. absurd (omega (arith, signed_arith, until, starts_in_order (d.year +ℤ pos 1 +ℤ pos 1) y (omega (arith, signed_arith)) (omega (arith, signed_arith)) (omega (arith, signed_arith)))))
    (λ le. omega (arith, signed_arith)))

lt_yes : (x y : ℤ) → x <ℤ y → int_lt x y ≡ true
lt_yes x y h = grind (arith, ints)

lt_no : (x y : ℤ) → y ≤ℤ x → int_lt x y ≡ false
lt_no x y h = grind (arith, ints)

-- the year of a week date is the definition's
pub year_is : (d : Date) (i : ISOWeekDate) → iso_epoch_day i ≡ epoch_day d → i.year ≡ week_year_of d.year (epoch_day d)
year_is d i e =
    let low = rw e at (lies i).0 in
    let high = rw e at (lies i).1 in
    by_lt_z (epoch_day d) (iso_year_start d.year)
    (λ early. rw (lt_yes _ _ early) (before d i.year _ refl i.year_in low high early))
    (λ from. by_lt_z (epoch_day d) (iso_year_start (d.year +ℤ pos 1))
    (λ until. rw (lt_no _ _ from, le_no _ _ until) (during d i.year i.year_in low high from until))
    (λ late. rw (lt_no _ _ from, le_yes _ _ late) (after d i.year i.year_in low high late)))
