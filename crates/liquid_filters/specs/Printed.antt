-- What a pattern prints of a clock: jiff's own function of the pattern, over the clock's parts.
use Rattle.std.specs.Prelude.{ℕ, Bool, true, false, List, Result, Ok, Err, if◌then◌else◌}
use Rattle.std.specs.Str.{is_utf8}
use Rattle.jiff_strtime.specs.Number.{match_result}
use Rattle.liquid_model.specs.declared.error.ErrorKind.{ErrorKind}
use Rattle.liquid_model.specs.declared.error.ErrorKind.TheVariants.{DateFormat}
use Rattle.jiff_core.specs.declared.error.Error.{Error}
use Rattle.jiff_core.specs.declared.error.Error.TheVariants.{Missing, OutOfMemory}
use Rattle.jiff_core.specs.declared.error.Part.TheVariants.{Date as NoDate, Instant}
use Rattle.jiff_strtime.specs.declared.directive.Config.{Config}
use Rattle.jiff_strtime.specs.declared.directive.Locale.TheVariants.{Default}
use Rattle.jiff_strtime.specs.Show.{Context, Shown, show_format}
use Rattle.liquid_filters.specs.Clock.{Clock, parts, unix_second}

-- jiff's default: a pattern that it doesn't know is refused
abbrev pub strict : Config
strict = record { locale = Default; lenient = false }

-- all that a pattern can ask for is among the parts, and the second is the clock's
abbrev pub context : Clock → Context
context c = record {
  parts = parts c;
  date = Err (Missing NoDate);
  iso = Err (Missing NoDate);
  second = Ok (unix_second c);
}

abbrev pub show_clock : Clock → List ℕ → Shown
show_clock c pattern = show_format strict pattern (context c)

-- the text, or a pattern that is refused
abbrev pub printed : Clock → List ℕ → Result (List ℕ) ErrorKind
printed c pattern =
    match_result (show_clock c pattern) (λ bs. if is_utf8 bs then Ok bs else Err DateFormat)
    (λ e. Err DateFormat)

-- memory ran out, or jiff lacks the instant: parts that hold one never lack it, which jiff's
-- contract leaves open
abbrev pub is_short : Error → Bool
is_short OutOfMemory = true
is_short (Missing Instant) = true
is_short e = false
