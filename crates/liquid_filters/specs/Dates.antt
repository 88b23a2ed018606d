-- What the date filters answer.
use Rattle.std.specs.Prelude.{ℤ, pos, neg_ℤ, ◌*ℤ◌, ◌==◌, ◌&&◌, int_le, Bool, List, [], ◌∷◌, length}
use Rattle.std.specs.Prelude.{Option, Some, None, Result, Ok, Err, if◌then◌else◌}
use Rattle.liquid_model.specs.Data.{Datum, text, text_of}
use Rattle.liquid_model.specs.Fallible.{◌>>=◌}
use Rattle.liquid_model.specs.Texts.{Text}
use Rattle.liquid_model.specs.declared.error.ErrorKind.{ErrorKind}
use Rattle.liquid_model.specs.declared.error.ErrorKind.TheVariants.{InvalidInput, InvalidArgument}
use Rattle.liquid_model.specs.declared.error.ErrorKind.TheVariants.{TimezoneRange}
use Rattle.liquid_model.specs.Arguments.{Answer, text_or, whole_or_fault}
use Rattle.liquid_filters.specs.Clock.{Clock, instant}
use Rattle.liquid_filters.specs.Instant.{clock_at}
use Rattle.liquid_filters.specs.Printed.{printed}
use Rattle.liquid_filters.specs.DateSpelling.{read}

-- a date is a text in one of the two spellings
abbrev pub date_of : Datum → Option Clock
date_of (text s) = read s
date_of d = None

abbrev pub as_text : Result Text ErrorKind → Answer
as_text (Ok s) = Ok (text s)
as_text (Err k) = Err k

-- what the clock's pattern prints, or the input where there is no clock
abbrev pub or_input : Datum → Option Clock → Text → Answer
or_input d None pattern = Ok d
or_input d (Some c) pattern = as_text (printed c pattern)

-- by the empty pattern the input stays
abbrev pub dated : Datum → Text → Answer
dated d pattern = if length pattern == 0 then Ok d else or_input d (date_of d) pattern

abbrev pub date_answer : Datum → List Datum → Answer
date_answer d args = dated d (text_or [] args)

-- 23 hours each way
abbrev pub is_zone : ℤ → Bool
is_zone hours = int_le (neg_ℤ (pos 23)) hours && int_le hours (pos 23)

-- the same instant, as a clock at an offset of `hours` hours prints it
abbrev pub in_zone : Option Clock → Text → ℤ → Answer
in_zone None pattern hours = Err InvalidInput
in_zone (Some c) pattern hours =
    if is_zone hours then as_text (printed (clock_at (instant c) (hours *ℤ pos 3600)) pattern)
    else Err TimezoneRange

abbrev pub date_in_tz_answer : Datum → List Datum → Answer
date_in_tz_answer d (pattern ∷ hours ∷ args) = whole_or_fault hours >>= in_zone (date_of d)
    (text_of pattern)
date_in_tz_answer d args = Err InvalidArgument
