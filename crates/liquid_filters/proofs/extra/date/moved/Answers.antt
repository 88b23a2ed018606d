use Rattle.std.proofs.Common.{◌∙◌, to_z-of_z, ◌*ℤ◌, pos}
use Rattle.jiff.specs.Words.{plain_zoned}
use Rattle.liquid_filters.proofs.Moves.{moved_is, small_hours}
use Rattle.liquid_filters.proofs.extra.date.moved.Goals as goal

pub returns : goal.returns
returns c =
    let seconds = rw c.unwrap-offset.ensures at c.from_hours.ensures.value in
    moved_is (plain_zoned c.args.date.now) (plain_zoned c.to_zoned.result) c.unwrap-offset.result (c.args.hours *ℤ pos 3600) (c.to_zoned.ensures.instant ∙ c.timestamp.ensures)
    (c.to_zoned.ensures.zone ∙ c.fixed.ensures) (rw (to_z-of_z c.ranges.hours, small_hours c.args.hours c.requires) at seconds)
