-- Texts of ISO 8601, also with a space for the `T`, in the spelling of dates that the language
-- reads.
--     date_spelling s      the spelling of a text that is a day or an instant
use Rattle.std.specs.Prelude.{ℕ, ◌==◌, ◌&&◌, not, nat_lt, Bool, List, [], ◌∷◌, ◌++◌, length}
use Rattle.std.specs.Prelude.{slice_index, Option, Some, None, is_some, codes, if◌then◌else◌}
use Rattle.std.specs.Char.{is_ascii_digit}
use Rattle.std.specs.List.{after_first, before_first, list_all, position_or_len}
use Rattle.liquid_model.specs.Texts.{Text, same_text}
use Rattle.liquid_filters.specs.DateSpelling.{read}
use denote.Bor.{Bor}

-- the text before the first of these bytes, and the text after it
abbrev pub split_at_byte : ℕ → Text → Option (Text × Text)
split_at_byte c s =
    if nat_lt (position_or_len (λ b. b == c) s) (length s)
    then Some (before_first (λ b. b == c) s, after_first (λ b. b == c) s) else None

-- the length of a day by numbers, and a `-` after its year
abbrev pub is_day : Text → Bool
is_day s = (length s == 10) && (slice_index s 4 == 45)

abbrev pub is_digits : Text → Bool
is_digits s = not (length s == 0) && list_all is_ascii_digit s

-- a time without its fraction of a second, and the seconds that it lacks
abbrev pub fraction_off : Text → Option (Text × Text) → Text × Text
fraction_off t None = (t, [])
fraction_off t (Some p) = if (length p.0 == 8) && is_digits p.1 then (p.0, []) else (t, [])

abbrev pub whole_seconds : Text → Text × Text
whole_seconds t = if length t == 5 then (t, codes ":00") else fraction_off t (split_at_byte 46 t)

-- an offset before its colon, after two digits, and after it
abbrev pub colon_off : Text → Option (Text × Text) → Text × Text
colon_off z None = (z, [])
colon_off z (Some p) = if length p.0 == 2 then p else (z, [])

abbrev pub without_colon : Text → Text × Text
without_colon z = colon_off z (split_at_byte 58 z)

abbrev pub day_and_time : Text × Text → Text
day_and_time p = p.0 ++ p.1

-- a time, a sign and an offset
abbrev pub zoned : Text → Text → Text → Text
zoned time sign offset = day_and_time (whole_seconds time) ++ sign
    ++ day_and_time (without_colon offset)

-- a time without the one space before its zone
abbrev pub space_off : Text → Option (Text × Text) → Text
space_off t None = t
space_off t (Some p) = if length p.1 == 0 then p.0 else t

abbrev pub without_space : Text → Text
without_space t = space_off t (split_at_byte 32 t)

-- a time alone is that of UTC, as one before `UTC` is
abbrev pub clock_universal : Text → Option (Text × Text) → Text
clock_universal t None = zoned t (codes " +0000") []
clock_universal t (Some p) =
    if same_text p.1 (codes "TC")
    then zoned (without_space p.0) (codes " +0000") [] else zoned t (codes " +0000") []

abbrev pub clock_west : Text → Option (Text × Text) → Text
clock_west t (Some p) = zoned (without_space p.0) (codes " -") p.1
clock_west t None = clock_universal t (split_at_byte 85 t)

abbrev pub clock_ahead : Text → Option (Text × Text) → Text
clock_ahead t (Some p) = zoned (without_space p.0) (codes " +") p.1
clock_ahead t None = clock_west t (split_at_byte 45 t)

abbrev pub utc_clock_text : Text → Option (Text × Text) → Text
utc_clock_text t (Some p) = zoned (without_space p.0) (codes " +0000") p.1
utc_clock_text t None = clock_ahead t (split_at_byte 43 t)

-- a time with `Z`, with an offset ahead or behind, with `UTC`, or with none
abbrev pub zoned_clock_text : Text → Text
zoned_clock_text t = utc_clock_text t (split_at_byte 90 t)

-- what a space parts, or the beginning of a day
abbrev pub clock_after_space : Text → Option (Text × Text) → Text × Text
clock_after_space s None = (s, codes "00:00:00")
clock_after_space s (Some p) = p

abbrev pub clock_after_t : Text → Option (Text × Text) → Text × Text
clock_after_t s None = clock_after_space s (split_at_byte 32 s)
clock_after_t s (Some p) = if is_day p.0 then p else clock_after_space s (split_at_byte 32 s)

-- the day and the time that the first `T` parts; where no day is before that, those that the first
-- space parts
abbrev pub day_and_clock : Text → Text × Text
day_and_clock s = clock_after_t s (split_at_byte 84 s)

abbrev pub after_day : Text × Text → Option Text
after_day p = if is_day p.0 then Some ((p.0 ++ codes " ") ++ zoned_clock_text p.1) else None

-- a day, or a day, `T` or a space, and a time, as they would be spelled
abbrev pub respelled_instant : Text → Option Text
respelled_instant s = after_day (day_and_clock s)

abbrev pub if_read : Option Text → Option Text
if_read None = None
if_read (Some t) = if is_some (read t) then Some t else None

-- the spelling of a text that is a day or an instant: one that the language reads
abbrev pub date_spelling : Text → Option Text
date_spelling s = if_read (respelled_instant s)

-- what the code cut
abbrev pub cut_view : Option (Bor Text × Bor Text) → Option (Text × Text)
cut_view None = None
cut_view (Some p) = Some (p.0.now, p.1.now)
