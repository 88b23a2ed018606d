-- What jiff itself prints from: the parts that it fills, and the date, the week date and the second
-- that they come to.
use Rattle.std.specs.Prelude.{◌≡◌, ℕ, ℤ, List, Some, Ok}
use Rattle.jiff_core.specs.declared.civil.datetime.DateTime.{DateTime}
use Rattle.jiff_core.specs.declared.civil.iso_week_date.ISOWeekDate.{ISOWeekDate}
use Rattle.jiff_core.specs.Date.{epoch_day}
use Rattle.jiff_core.specs.IsoWeekDate.{iso_epoch_day}
use Rattle.jiff_strtime.specs.Text.{date_parts, time_parts}
use Rattle.jiff_strtime.specs.Show.{Context, show_format}
use Rattle.liquid_filters.specs.Clock.{clock_of, instant, unix_second, zone_text, zone_name}
use Rattle.liquid_filters.specs.Printed.{strict, show_clock}

-- the parts of a zoned datetime as jiff fills them, with its date, its week date and its second
abbrev pub own : DateTime → ℤ → ISOWeekDate → Context
own dt o i = record {
  parts = record (date_parts dt.date (time_parts dt.time)) {
    offset = Some o;
    timestamp = Some (instant (clock_of dt o));
    tz_abbreviation = Some (zone_text o);
    iana =
        zone_name o;
  };
  date = Ok dt.date;
  iso = Ok i;
  second = Ok (unix_second (clock_of dt o));
}

abbrev pub IsWeekOf : ISOWeekDate → DateTime → Type 0
IsWeekOf i dt = iso_epoch_day i ≡ epoch_day dt.date

-- a pattern shows the same of them
abbrev pub ShowsOwn : DateTime → ℤ → List ℕ → Type 0
ShowsOwn dt o pattern = (i : ISOWeekDate) → IsWeekOf i dt →
    show_format strict pattern (own dt o i) ≡ show_clock (clock_of dt o) pattern
