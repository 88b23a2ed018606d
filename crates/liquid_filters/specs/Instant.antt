-- The clock at an instant.
use Rattle.std.specs.Prelude.{ℕ, zero, suc, ℤ, pos, ◌+◌, ◌-◌, ◌/◌, ◌%◌, ◌+ℤ◌, ◌-ℤ◌, int_le}
use Rattle.std.specs.Prelude.{unsigned_abs, if◌then◌else◌}
use Rattle.std.specs.Int.{int_div_euclid, int_rem_euclid}
use Rattle.jiff_core.specs.Calendar.{days_from_civil}
use Rattle.jiff_core.specs.Timestamp.{nanos_of_seconds}
use Rattle.liquid_filters.specs.Clock.{Clock}

-- the last year from y - k to y that has begun on the day n, or y - k where none has
unfoldable pub year_at : ℕ → ℤ → ℤ → ℤ
year_at zero y n = y
year_at (suc k) y n = if int_le (days_from_civil y 1 1) n then y else year_at k (y -ℤ pos 1) n

-- and the last month of a year
unfoldable pub month_at : ℕ → ℤ → ℕ → ℤ → ℕ
month_at zero y m n = m
month_at (suc k) y m n = if int_le (days_from_civil y m 1) n then m else month_at k y (m - 1) n

abbrev pub year_of : ℤ → ℤ
year_of n = year_at 19_998 (pos 9999) n

abbrev pub month_of : ℤ → ℤ → ℕ
month_of y n = month_at 11 y 12 n

abbrev pub clock_on : ℤ → ℤ → ℕ → ℕ → ℤ → Clock
clock_on day y m rest offset = record {
  year = y;
  month = m;
  day = unsigned_abs (day -ℤ days_from_civil y m 1) + 1;
  hour = rest / 3_600_000_000_000;
  minute = rest / 60_000_000_000 % 60;
  second = rest / 1_000_000_000 % 60;
  nanosecond = rest % 1_000_000_000;
  offset = offset;
}

-- the clock n nanoseconds of its own after 1970 began
abbrev pub clock_after : ℤ → ℤ → Clock
clock_after n offset =
    clock_on (int_div_euclid n (pos 86_400_000_000_000))
    (year_of (int_div_euclid n (pos 86_400_000_000_000)))
    (month_of (year_of (int_div_euclid n (pos 86_400_000_000_000)))
    (int_div_euclid n (pos 86_400_000_000_000)))
    (unsigned_abs (int_rem_euclid n (pos 86_400_000_000_000))) offset

-- what a clock at the offset shows at the instant
abbrev pub clock_at : ℤ → ℤ → Clock
clock_at instant offset = clock_after (instant +ℤ nanos_of_seconds offset) offset
