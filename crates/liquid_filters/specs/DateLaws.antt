-- What is proved of dates beyond the filters' answers.
use Rattle.std.specs.Prelude.{◌≡◌, ◌⊎◌, ◌<◌, true, Some, None, ℤ, pos, ◌+ℤ◌, ◌*ℤ◌, List, [], ◌∷◌}
use Rattle.std.specs.Prelude.{MatchBool, Ok, Err}
use Rattle.jiff_core.specs.DateTime.{IsCivilNanos}
use Rattle.jiff_core.specs.Timestamp.{nanos_of_seconds}
use Rattle.liquid_model.specs.Answer.{IsTheOne}
use Rattle.liquid_model.specs.Data.{Datum, text, text_of}
use Rattle.liquid_model.specs.Texts.{Text}
use Rattle.liquid_model.specs.Whole.{whole}
use Rattle.liquid_model.specs.declared.error.ErrorKind.TheVariants.{InvalidInput, InvalidArgument}
use Rattle.liquid_model.specs.declared.error.ErrorKind.TheVariants.{TimezoneRange}
use Rattle.liquid_model.specs.Arguments.{Answer, text_or}
use Rattle.liquid_filters.specs.Clock.{Clock, IsClock, instant}
use Rattle.liquid_filters.specs.Dates.{as_text, date_answer, date_in_tz_answer, is_zone}
use Rattle.liquid_filters.specs.Instant.{clock_at}
use Rattle.liquid_filters.specs.Printed.{printed}
use Rattle.liquid_filters.specs.DateSpelling.{Spelled, clock, exists, read}
use Rattle.liquid_filters.specs.WrittenDates.{named_written, plain_written, short_written}
use Rattle.liquid_filters.specs.WrittenDates.{date_written}

-- a date that exists is read in each way in which it may be written
abbrev pub PlainIsRead : Type 0
PlainIsRead = (x : Spelled) → exists x ≡ true → read (date_written plain_written x) ≡ Some (clock x)

abbrev pub NamedIsRead : Type 0
NamedIsRead = (x : Spelled) → exists x ≡ true → read (date_written named_written x) ≡ Some (clock x)

abbrev pub ShortIsRead : Type 0
ShortIsRead = (x : Spelled) → exists x ≡ true → x.date.day < 10 →
    read (date_written short_written x) ≡ Some (clock x)

-- the text is the date in one of its spellings
abbrev pub IsWritten : Spelled → Text → Type 0
IsWritten x s = (s ≡ date_written plain_written x) ⊎
    ((s ≡ date_written named_written x) ⊎ ((x.date.day < 10) × (s ≡ date_written short_written x)))

-- and no other text is read: a clock that is read is that of a date that exists, and the text is
-- written so
abbrev pub ReadIsWritten : Type 0
ReadIsWritten = (s : Text) (c : Clock) → read s ≡ Some c → (x : Spelled) × (exists x ≡ true) ×
    (c ≡ clock x) × IsWritten x s

-- ---- the clock at an instant

-- the clock that an offset shows at a clock's own instant is that clock: at one offset no two show
-- one instant
abbrev pub ClockOfInstant : Type 0
ClockOfInstant = (c : Clock) → IsClock c → clock_at (instant c) c.offset ≡ c

-- and at each instant there is one, while the calendar's years last there
abbrev pub InstantOfClock : Type 0
InstantOfClock =
    (n offset : ℤ) → IsCivilNanos (n +ℤ nanos_of_seconds offset)
    → IsClock (clock_at n offset) × (instant (clock_at n offset) ≡ n)

-- ---- the filters

-- the value is a text that writes the date x, which exists
abbrev pub IsDate : Datum → Spelled → Type 0
IsDate d x = (s : Text) × (d ≡ text s) × (exists x ≡ true) × IsWritten x s

-- the value writes no date
abbrev pub IsNoDate : Datum → Type 0
IsNoDate d = (x : Spelled) → IsDate d x → ⊥

-- the date's clock printed by the pattern; by the empty pattern, and of what is no date, the input
abbrev pub PrintsDate : Datum → Text → Answer → Type 0
PrintsDate d [] a = a ≡ Ok d
PrintsDate d pattern a =
    ((x : Spelled) × IsDate d x × (a ≡ as_text (printed (clock x) pattern)))
    ⊎ (IsNoDate d × (a ≡ Ok d))

abbrev pub DateIsOne : Type 0
DateIsOne =
    (d : Datum) (args : List Datum) → IsTheOne (PrintsDate d (text_or [] args)) (date_answer d args)

-- z shows the instant of c at this offset
abbrev pub ShowsInstant : Clock → ℤ → Clock → Type 0
ShowsInstant c offset z = IsClock z × (z.offset ≡ offset) × (instant z ≡ instant c)

-- what is printed of a clock's instant at an offset of `hours` hours, up to 23 each way
abbrev pub PrintsAt : Clock → Text → ℤ → Answer → Type 0
PrintsAt c pattern hours a =
    MatchBool (is_zone hours)
    ((z : Clock) × ShowsInstant c (hours *ℤ pos 3600) z × (a ≡ as_text (printed z pattern)))
    (a ≡ Err TimezoneRange)

-- hours that are no number are refused first, then what is no date, then hours beyond 23 each way
abbrev pub PrintsInZone : Datum → Text → Datum → Answer → Type 0
PrintsInZone d pattern hours a =
    ((whole hours ≡ None) × (a ≡ Err InvalidArgument))
    ⊎ ((h : ℤ) × (whole hours ≡ Some h)
    × (((x : Spelled) × IsDate d x × PrintsAt (clock x) pattern h a)
    ⊎ (IsNoDate d × (a ≡ Err InvalidInput))))

abbrev pub DateInTzIsOne : Type 0
DateInTzIsOne =
    (d pattern hours : Datum) (args : List Datum)
    → IsTheOne (PrintsInZone d (text_of pattern) hours)
    (date_in_tz_answer d (pattern ∷ hours ∷ args))
