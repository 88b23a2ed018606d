-- How a date is written, and what a text that is a date says.
use Rattle.std.specs.Prelude.{◌≡◌, ℕ, ℤ, pos, neg_ℤ, ◌+◌, ◌-◌, ◌*◌, ◌==◌, ◌&&◌, nat_le, Bool, true}
use Rattle.std.specs.Prelude.{false, List, [], ◌∷◌, Option, Some, None, if◌then◌else◌}
use Rattle.std.specs.Char.{is_ascii_digit}
use denote.Bor.{Bor}
use Rattle.liquid_filters.specs.declared.spelling.Day.{Day as CodeDay}
use Rattle.liquid_filters.specs.declared.spelling.Time.{Time as CodeTime}
use Rattle.liquid_filters.specs.declared.spelling.Offset.{Offset as CodeOffset}
use Rattle.liquid_filters.specs.declared.spelling.Spelled.{Spelled as CodeSpelled}
use Rattle.std.specs.Prelude.{◌<◌}
use Rattle.jiff_core.specs.Calendar.{days_in_month}
use Rattle.liquid_filters.specs.Clock.{Clock, clock_of}
use Rattle.jiff.specs.Words.{plain_zoned, fixed_zone}
use Rattle.jiff_core.specs.declared.offset.Offset.{Offset as FixedOffset}
use Rattle.jiff.specs.declared.zoned.Zoned.{Zoned}

abbrev pub ◌>>=◌ : {A B : Type 0} → Option A → (A → Option B) → Option B
◌>>=◌ None f = None
◌>>=◌ (Some x) f = f x

-- what was read, and the text after it
abbrev pub Read : Type 0 → Type 0
Read A = Option (A × List ℕ)

abbrev pub date_part_view : {A : Type 0} → Option (A × Bor (List ℕ)) → Read A
date_part_view None = None
date_part_view (Some p) = Some (p.0, p.1.now)

-- this byte
abbrev pub past_date_byte : ℕ → List ℕ → Option (List ℕ)
past_date_byte b [] = None
past_date_byte b (a ∷ s) = if a == b then Some s else None

-- a digit, two, four
abbrev pub digit : List ℕ → Read ℕ
digit [] = None
digit (a ∷ s) = if is_ascii_digit a then Some (a - 48, s) else None

unfoldable pub two : List ℕ → Read ℕ
two s = do
  a ← digit s
  b ← digit a.1
  Some (a.0 * 10 + b.0, b.1)

unfoldable pub four : List ℕ → Read ℕ
four s = do
  a ← two s
  b ← two a.1
  Some (a.0 * 100 + b.0, b.1)

-- one digit or two, as many as there are
abbrev pub second_digit : ℕ → List ℕ → Read ℕ → Read ℕ
second_digit a rest None = Some (a, rest)
second_digit a rest (Some b) = Some (a * 10 + b.0, b.1)

unfoldable pub one_or_two : List ℕ → Read ℕ
one_or_two s = do
  a ← digit s
  second_digit a.0 a.1 (digit a.1)

-- the number of a month by its three letters
abbrev pub month_number : ℕ → ℕ → ℕ → ℕ
month_number a b c =
    if (a == 74) && (b == 97) && (c == 110) then 1
    else (if (a == 70) && (b == 101) && (c == 98) then 2
    else (if (a == 77) && (b == 97) && (c == 114) then 3
    else (if (a == 65) && (b == 112) && (c == 114) then 4
    else (if (a == 77) && (b == 97) && (c == 121) then 5
    else (if (a == 74) && (b == 117) && (c == 110) then 6
    else (if (a == 74) && (b == 117) && (c == 108) then 7
    else (if (a == 65) && (b == 117) && (c == 103) then 8
    else (if (a == 83) && (b == 101) && (c == 112) then 9
    else (if (a == 79) && (b == 99) && (c == 116) then 10
    else (if (a == 78) && (b == 111) && (c == 118) then 11
    else (if (a == 68) && (b == 101) && (c == 99) then 12 else 0)))))))))))

abbrev pub byte : List ℕ → Read ℕ
byte [] = None
byte (a ∷ s) = Some (a, s)

abbrev pub known_month : ℕ → List ℕ → Read ℕ
known_month n s = if n == 0 then None else Some (n, s)

unfoldable pub month : List ℕ → Read ℕ
month s = do
  a ← byte s
  b ← byte a.1
  c ← byte b.1
  known_month (month_number a.0 b.0 c.0) c.1

-- year, month and day
pub record Day : Type 0 where
  pub year : ℕ
  pub month : ℕ
  pub day : ℕ

unfoldable pub named_day : List ℕ → Read Day
named_day s = do
  d ← one_or_two s
  s₁ ← past_date_byte 32 d.1
  m ← month s₁
  s₂ ← past_date_byte 32 m.1
  y ← four s₂
  Some (record { year = y.0; month = m.0; day = d.0 }, y.1)

unfoldable pub plain_day : List ℕ → Read Day
plain_day s = do
  y ← four s
  s₁ ← past_date_byte 45 y.1
  m ← two s₁
  s₂ ← past_date_byte 45 m.1
  d ← two s₂
  Some (record { year = y.0; month = m.0; day = d.0 }, d.1)

abbrev pub or_else : {A : Type 0} → Option A → Option A → Option A
or_else (Some x) o = Some x
or_else None o = o

pub record Time : Type 0 where
  pub hour : ℕ
  pub minute : ℕ
  pub second : ℕ

unfoldable pub time : List ℕ → Read Time
time s = do
  h ← two s
  s₁ ← past_date_byte 58 h.1
  m ← two s₁
  s₂ ← past_date_byte 58 m.1
  x ← two s₂
  Some (record { hour = h.0; minute = m.0; second = x.0 }, x.1)

-- whether the sign is a minus
abbrev pub sign : List ℕ → Read Bool
sign [] = None
sign (a ∷ s) = if a == 43 then Some (false, s) else (if a == 45 then Some (true, s) else None)

pub record Offset : Type 0 where
  pub is_west : Bool
  pub hours : ℕ
  pub minutes : ℕ

unfoldable pub offset : List ℕ → Read Offset
offset s = do
  n ← sign s
  h ← two n.1
  m ← two h.1
  Some (record { is_west = n.0; hours = h.0; minutes = m.0 }, m.1)

abbrev pub end : List ℕ → {A : Type 0} → A → Option A
end [] x = Some x
end (b ∷ s) x = None

pub record Spelled : Type 0 where
  pub date : Day
  pub time : Time
  pub offset : Offset

-- the whole text, in one of the two spellings
unfoldable pub read_spelled_date : List ℕ → Option Spelled
read_spelled_date s = do
  d ← or_else (named_day s) (plain_day s)
  s₁ ← past_date_byte 32 d.1
  t ← time s₁
  s₂ ← past_date_byte 32 t.1
  o ← offset s₂
  end o.1 (record { date = d.0; time = t.0; offset = o.0 })

-- the calendar has the day in these years, and a clock shows the time
abbrev pub exists : Spelled → Bool
exists x =
    nat_le 1 x.date.year && nat_le x.date.year 9998 && nat_le 1 x.date.month &&
    nat_le x.date.month 12
    && nat_le 1 x.date.day && nat_le x.date.day (days_in_month (pos x.date.year) x.date.month)
    && nat_le x.time.hour 23 && nat_le x.time.minute 59 && nat_le x.time.second 59
    && nat_le x.offset.hours 23 && nat_le x.offset.minutes 59

abbrev pub offset_seconds : Offset → ℤ
offset_seconds o =
    if o.is_west then neg_ℤ (pos (o.hours * 3600 + o.minutes * 60)) else pos
    (o.hours * 3600 + o.minutes * 60)

-- the clock that shows it
abbrev pub clock : Spelled → Clock
clock x = record {
  year = pos x.date.year;
  month = x.date.month;
  day = x.date.day;
  hour = x.time.hour;
  minute = x.time.minute;
  second = x.time.second;
  nanosecond = 0;
  offset = offset_seconds x.offset;
}

abbrev pub if_exists : Spelled → Option Clock
if_exists x = if exists x then Some (clock x) else None

-- the clock of a text that is a date
unfoldable pub read : List ℕ → Option Clock
read s = do
  x ← read_spelled_date s
  if_exists x

-- the code's numbers, as they were read

abbrev pub day_of : CodeDay → Day
day_of d = record { year = d.year; month = d.month; day = d.day }

abbrev pub time_of : CodeTime → Time
time_of t = record { hour = t.hour; minute = t.minute; second = t.second }

abbrev pub offset_of : CodeOffset → Offset
offset_of o = record { is_west = o.is_west; hours = o.hours; minutes = o.minutes }

abbrev pub whole_view : CodeSpelled → Spelled
whole_view x = record { date = day_of x.date; time = time_of x.time; offset = offset_of x.offset }

abbrev pub day_view : Option (CodeDay × Bor (List ℕ)) → Read Day
day_view None = None
day_view (Some p) = Some (day_of p.0, p.1.now)

abbrev pub time_view : Option (CodeTime × Bor (List ℕ)) → Read Time
time_view None = None
time_view (Some p) = Some (time_of p.0, p.1.now)

abbrev pub offset_view : Option (CodeOffset × Bor (List ℕ)) → Read Offset
offset_view None = None
offset_view (Some p) = Some (offset_of p.0, p.1.now)

-- what the digits can write: four of a year, and two of every other part
abbrev pub IsDay : CodeDay → Type 0
IsDay d = (d.year < 10000) × (d.month < 100) × (d.day < 100)

abbrev pub IsTimed : CodeTime → Type 0
IsTimed t = (t.hour < 100) × (t.minute < 100) × (t.second < 100)

abbrev pub IsOffset : CodeOffset → Type 0
IsOffset o = (o.hours < 100) × (o.minutes < 100)

-- the zone is that of one offset at every instant, and the clock shows this offset
abbrev pub IsAtFixedOffset : Zoned → Type 0
IsAtFixedOffset z =
    (offset : FixedOffset) × (offset.seconds ≡ (plain_zoned z).offset.seconds)
    × ((plain_zoned z).time_zone ≡ fixed_zone offset)

-- what the clock of an instant in a zone shows
abbrev pub zoned_clock : Zoned → Clock
zoned_clock z = clock_of (plain_zoned z).datetime (plain_zoned z).offset.seconds
