-- A pattern that isn't printed is refused by one kind.
use Rattle.std.specs.Prelude.{◌≡◌, ℕ, Bool, true, false, List, Ok, Err, if◌then◌else◌}
use Rattle.std.specs.Str.{is_utf8}
use Rattle.jiff_strtime.specs.Number.{match_result}
use Rattle.jiff_strtime.specs.Show.{Shown}
use Rattle.liquid_model.specs.declared.error.ErrorKind.{ErrorKind}
use Rattle.liquid_model.specs.declared.error.ErrorKind.TheVariants.{DateFormat}
use Rattle.liquid_filters.specs.Clock.{Clock}
use Rattle.liquid_filters.specs.Printed.{printed, show_clock}

refused_by : (b : Bool) (bs : List ℕ) (kind : ErrorKind) → (if b then Ok bs else Err DateFormat) ≡ Err kind → kind ≡ DateFormat
refused_by true bs kind h = absurd cc
refused_by false bs kind h = cc

pub printed_kind : (c : Clock) (pattern : List ℕ) (kind : ErrorKind) → printed c pattern ≡ Err kind → kind ≡ DateFormat
printed_kind c pattern kind h = on (show_clock c pattern) h
  where
    on : (s : Shown) → match_result s (λ bs. if is_utf8 bs then Ok bs else Err DateFormat) (λ e. Err DateFormat) ≡ Err kind → kind ≡ DateFormat
    on (Ok bs) h = refused_by (is_utf8 bs) bs kind h
    on (Err e) h = cc
