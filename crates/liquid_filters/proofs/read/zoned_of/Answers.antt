use Rattle.std.proofs.Common.{◌≤◌, ◌∙◌, refl, arith}
use Rattle.jiff_core.proofs.SignedLemmas.{signed_arith}
use Rattle.liquid_filters.specs.DateSpelling.{whole_view}
use Rattle.liquid_filters.proofs.Existing.{facts}
use Rattle.liquid_filters.proofs.read.zoned_of.Goals as goal

pub civil_date-requires : goal.civil_date-requires
civil_date-requires c = let there = facts (whole_view c.args.x) c.requires in record { year = there.year; month = there.month; day = there.day }

pub civil_time-requires : goal.civil_time-requires
civil_time-requires c = (facts (whole_view c.args.x) c.requires).time

pub civil_offset-requires : goal.civil_offset-requires
civil_offset-requires c = (facts (whole_view c.args.x) c.requires).offset

pub instant_at-requires : goal.instant_at-requires
instant_at-requires c =
    let there = facts (whole_view c.args.x) c.requires in
    let low : 1 ≤ c.args.x.date.year = there.year.0 in
    let high : c.args.x.date.year ≤ 9998 = there.year.1 in
    rw c.civil_date.ensures.0 (omega (arith, signed_arith, low), omega (arith, signed_arith, high))

pub returns : goal.returns
returns c =
    record {
      value = c.instant_at.ensures.value ∙ rw (c.civil_date.ensures.0, c.civil_date.ensures.1, c.civil_date.ensures.2, c.civil_time.ensures.0, c.civil_time.ensures.1, c.civil_time.ensures.2, c.civil_time.ensures.3, c.civil_offset.ensures) refl;
      zone = c.instant_at.ensures.zone;
    }
