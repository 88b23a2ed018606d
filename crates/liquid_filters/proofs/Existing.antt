-- What exists says, fact by fact.
use Rattle.std.proofs.Common.{◌≡◌, ◌≤◌, pos, true}
use Rattle.std.specs.Prelude.{nat_le}
use Rattle.std.proofs.lemmas.Bool.{and_parts, leb-true}
use Rattle.jiff_core.specs.Calendar.{days_in_month}
use Rattle.liquid_filters.specs.DateSpelling.{Spelled, exists}

pub record Exists (x : Spelled) : Type 0 where
  pub year : (1 ≤ x.date.year) × (x.date.year ≤ 9998)
  pub month : (1 ≤ x.date.month) × (x.date.month ≤ 12)
  pub day : (1 ≤ x.date.day) × (x.date.day ≤ days_in_month (pos x.date.year) x.date.month)
  pub time : (x.time.hour ≤ 23) × (x.time.minute ≤ 59) × (x.time.second ≤ 59)
  pub offset : (x.offset.hours ≤ 23) × (x.offset.minutes ≤ 59)

pub facts : (x : Spelled) → exists x ≡ true → Exists x
facts x e =
    let at_minutes = and_parts _ (nat_le x.offset.minutes 59) e in
    let at_hours = and_parts _ (nat_le x.offset.hours 23) at_minutes.0 in
    let at_second = and_parts _ (nat_le x.time.second 59) at_hours.0 in
    let at_minute = and_parts _ (nat_le x.time.minute 59) at_second.0 in
    let at_hour = and_parts _ (nat_le x.time.hour 23) at_minute.0 in
    let day_to = and_parts _ (nat_le x.date.day (days_in_month (pos x.date.year) x.date.month)) at_hour.0 in
    let day_from = and_parts _ (nat_le 1 x.date.day) day_to.0 in
    let month_to = and_parts _ (nat_le x.date.month 12) day_from.0 in
    let month_from = and_parts _ (nat_le 1 x.date.month) month_to.0 in
    let years = and_parts (nat_le 1 x.date.year) (nat_le x.date.year 9998) month_from.0 in
    record {
      year = (leb-true _ _ years.0, leb-true _ _ years.1);
      month = (leb-true _ _ month_from.1, leb-true _ _ month_to.1);
      day = (leb-true _ _ day_from.1, leb-true _ _ day_to.1);
      time = (leb-true _ _ at_hour.1, leb-true _ _ at_minute.1, leb-true _ _ at_second.1);
      offset = (leb-true _ _ at_hours.1, leb-true _ _ at_minutes.1);
    }
