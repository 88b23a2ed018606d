-- What `increment` and `decrement` do with a counter.
use Rattle.std.specs.Prelude.{ℤ, if◌then◌else◌, Some, None, Result}
use Rattle.std.specs.Fmt.{signed_decimal}
use Rattle.std.specs.Option.{ok_or}
use Rattle.liquid_model.specs.Texts.{Text}
use Rattle.liquid_model.specs.Whole.{fits}
use Rattle.liquid_model.specs.declared.error.ErrorKind.{ErrorKind}
use Rattle.liquid_model.specs.declared.error.ErrorKind.TheVariants.{NumberRange}
use Rattle.liquid_meaning.specs.Effects.{counted_to}
use Rattle.liquid_meaning.specs.Runs.{Nothing, Run, change, write, ◌>>=◌}

-- a number of 64 bits, or `NumberRange`
abbrev pub in_i64 : ℤ → Result ℤ ErrorKind
in_i64 n = ok_or (if fits n then Some n else None) NumberRange

-- a number is written, and then one is stored as the counter
abbrev pub shown_and_stored : Text → ℤ → ℤ → Run Nothing
shown_and_stored name shown stored =
    write (signed_decimal shown) >>= (λ a. change (counted_to name stored))
