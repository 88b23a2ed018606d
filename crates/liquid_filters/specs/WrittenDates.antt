-- How a date is written in each of the two spellings: each text with what follows it.
use Rattle.std.specs.Prelude.{ℕ, ◌+◌, ◌/◌, ◌%◌, ◌==◌, Bool, [], ◌∷◌, ◌++◌, codes, if◌then◌else◌}
use Rattle.liquid_model.specs.Texts.{Text}
use Rattle.liquid_filters.specs.DateSpelling.{Day, Offset, Spelled, Time}

abbrev pub two_digits : ℕ → Text → Text
two_digits n s = (48 + n / 10) ∷ (48 + n % 10) ∷ s

abbrev pub four_digits : ℕ → Text → Text
four_digits n s = two_digits (n / 100) (two_digits (n % 100) s)

-- the three letters of a month
abbrev pub letters : ℕ → Text
letters m =
    if m == 1 then codes "Jan"
    else (if m == 2 then codes "Feb"
    else (if m == 3 then codes "Mar"
    else (if m == 4 then codes "Apr"
    else (if m == 5 then codes "May"
    else (if m == 6 then codes "Jun"
    else (if m == 7 then codes "Jul"
    else (if m == 8 then codes "Aug"
    else (if m == 9 then codes "Sep"
    else (if m == 10 then codes "Oct"
    else (if m == 11 then codes "Nov" else codes "Dec"))))))))))

-- year, month and day by numbers
abbrev pub plain_written : Day → Text → Text
plain_written d s = four_digits d.year (45 ∷ two_digits d.month (45 ∷ two_digits d.day s))

-- day, the month's letters and year
abbrev pub named_written : Day → Text → Text
named_written d s = two_digits d.day (32 ∷ (letters d.month ++ (32 ∷ four_digits d.year s)))

-- the same with a day of one digit
abbrev pub short_written : Day → Text → Text
short_written d s = (48 + d.day) ∷ 32 ∷ (letters d.month ++ (32 ∷ four_digits d.year s))

abbrev pub time_written : Time → Text → Text
time_written t s = two_digits t.hour (58 ∷ two_digits t.minute (58 ∷ two_digits t.second s))

abbrev pub sign_of : Bool → ℕ
sign_of is_west = if is_west then 45 else 43

abbrev pub offset_written : Offset → Text → Text
offset_written o s = sign_of o.is_west ∷ two_digits o.hours (two_digits o.minutes s)

-- the date in one of its spellings, and then time and offset
abbrev pub date_written : (Day → Text → Text) → Spelled → Text
date_written day x = day x.date (32 ∷ time_written x.time (32 ∷ offset_written x.offset []))
