-- What a clock shows, and the parts of it that a pattern can print.
use Rattle.std.specs.Prelude.{ℕ, ℤ, pos, ◌<◌, ◌+◌, ◌-◌, ◌*◌, ◌/◌, ◌%◌, ◌+ℤ◌, ◌-ℤ◌, ◌*ℤ◌, int_le}
use Rattle.std.specs.Prelude.{int_lt, unsigned_abs, List, Option, Some, None, codes, if◌then◌else◌}
use Rattle.std.specs.Ordering.{int_eq}
use Rattle.jiff_core.specs.Calendar.{days_from_civil, day_of_year, days_in_month, weekday_number}
use Rattle.jiff_core.specs.Calendar.{iso_year_start, IsYear}
use Rattle.jiff_core.specs.Timestamp.{nanos_of_seconds}
use Rattle.jiff_core.specs.declared.civil.datetime.DateTime.{DateTime}
use Rattle.std.specs.Int.{int_div_euclid, IsInRange}
use Rattle.jiff_strtime.specs.Text.{Parts, from_hour}
use Rattle.jiff_tz.specs.Abbreviation.{offset_text}

-- a clock at a fixed offset: its date, its time, and the offset's seconds
pub record Clock : Type 0 where
  pub year : ℤ
  pub month : ℕ
  pub day : ℕ
  pub hour : ℕ
  pub minute : ℕ
  pub second : ℕ
  pub nanosecond : ℕ
  pub offset : ℤ

abbrev pub day_number : Clock → ℤ
day_number c = days_from_civil c.year c.month c.day

-- the place in the year, from 1, and the weekday, from 0 for Monday
abbrev pub place_in_year : Clock → ℕ
place_in_year c = day_of_year c.year c.month c.day

abbrev pub weekday : Clock → ℕ
weekday c = weekday_number (day_number c)

-- the year that the week belongs to: that in which its Thursday lies
abbrev pub week_year_of : ℤ → ℤ → ℤ
week_year_of year number =
    if int_lt number (iso_year_start year) then year -ℤ pos 1
    else (if int_le (iso_year_start (year +ℤ pos 1)) number then year +ℤ pos 1 else year)

abbrev pub week_of : ℤ → ℤ → ℕ
week_of year number = unsigned_abs (number -ℤ iso_year_start year) / 7 + 1

abbrev pub week_year : Clock → ℤ
week_year c = week_year_of c.year (day_number c)

abbrev pub week : Clock → ℕ
week c = week_of (week_year c) (day_number c)

-- nanoseconds since 1 January 1970 on the clock itself, and at no offset
abbrev pub clock_nanos : Clock → ℤ
clock_nanos c =
    day_number c *ℤ pos 86_400_000_000_000 +ℤ pos
    ((c.hour * 3600 + c.minute * 60 + c.second) * 1_000_000_000 + c.nanosecond)

abbrev pub instant : Clock → ℤ
instant c = clock_nanos c -ℤ nanos_of_seconds c.offset

-- whole seconds of that
abbrev pub unix_second : Clock → ℤ
unix_second c = int_div_euclid (instant c) (pos 1_000_000_000)

-- the clock shows a day that the calendar has, in the years from -9999 to 9999, and a time of day
pub record IsClock (c : Clock) : Type 0 where
  pub year : IsYear c.year
  pub month : IsInRange 1 12 c.month
  pub day : IsInRange 1 (days_in_month c.year c.month) c.day
  pub hour : c.hour < 24
  pub minute : c.minute < 60
  pub second : c.second < 60
  pub nanosecond : c.nanosecond < 1_000_000_000

-- what a datetime is at an offset
abbrev pub clock_of : DateTime → ℤ → Clock
clock_of dt offset = record {
  year = dt.date.year;
  month = dt.date.month;
  day = dt.date.day;
  hour = dt.time.hour;
  minute = dt.time.minute;
  second = dt.time.second;
  nanosecond = dt.time.subsec_nanosecond;
  offset = offset;
}

abbrev pub zone_text : ℤ → List ℕ
zone_text offset = if int_eq offset (pos 0) then codes "UTC" else offset_text offset

abbrev pub zone_name : ℤ → Option (List ℕ)
zone_name offset = if int_eq offset (pos 0) then Some (codes "UTC") else None

-- every part that a pattern can ask for
abbrev pub parts : Clock → Parts
parts c = record {
  year = Some c.year;
  month = Some c.month;
  day = Some c.day;
  day_of_year = Some (place_in_year c);
  iso_week_year = Some (week_year c);
  iso_week = Some (week c);
  week_sun = Some ((place_in_year c + 6 - (weekday c + 1) % 7) / 7);
  week_mon = Some ((place_in_year c + 6 - weekday c) / 7);
  hour = Some c.hour;
  minute = Some c.minute;
  second = Some c.second;
  subsec = Some c.nanosecond;
  offset = Some c.offset;
  weekday = Some (weekday c);
  meridiem = Some (from_hour c.hour);
  timestamp = Some (instant c);
  tz_abbreviation = Some (zone_text c.offset);
  iana = zone_name c.offset;
}
