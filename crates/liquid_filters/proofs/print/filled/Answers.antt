use Rattle.std.proofs.Common.{◌≡◌, ◌+ℤ◌, refl, sym, ◌∙◌, arith, w16}
use Rattle.jiff_core.proofs.SignedLemmas.{signed_arith, back_small, one_part}
use Rattle.jiff_core.proofs.DateTimeLemmas.{civil_nanos-parts}
use Rattle.jiff_core.specs.Timestamp.{nanos_of_seconds}
use Rattle.liquid_filters.specs.Clock.{clock_of, clock_nanos, instant}
use Rattle.liquid_filters.proofs.print.filled.Goals as goal

pub returns : goal.returns
returns c =
    let own = back_small w16 c.args.datetime.date.year (omega (arith, signed_arith, one_part c.args.datetime.date.year, c.args.datetime.date.year_in)) in
    let iso = back_small w16 c.week_date-iso.result.year (omega (arith, signed_arith, one_part c.week_date-iso.result.year, c.week_date-iso.result.year_in)) in
    let whole : clock_nanos (clock_of c.args.datetime c.args.offset.seconds) ≡ c.args.timestamp.nanosecond +ℤ nanos_of_seconds c.args.offset.seconds = sym (civil_nanos-parts c.args.datetime) ∙ c.requires.instant in
    let at : c.args.timestamp.nanosecond ≡ instant (clock_of c.args.datetime c.args.offset.seconds) = omega (arith, signed_arith) in
    rw (own, iso, at, c.index.ensures.value, c.index-2.ensures.value, c.weekday-weekday.ensures, c.day_of_year-place.ensures.value, c.week_date-iso.ensures.year, c.week_date-iso.ensures.week, c.requires.abbreviation, c.requires.name, c.from_hour.ensures) refl
