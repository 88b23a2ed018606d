use Rattle.std.proofs.Common.{subst, ap, ◌∙◌, to_z-of_z, pos, ◌*ℤ◌}
use Rattle.liquid_model.specs.Answer.{Answers}
use Rattle.liquid_model.specs.View.{view}
use Rattle.liquid_filters.specs.Clock.{instant}
use Rattle.liquid_filters.specs.Printed.{printed}
use Rattle.liquid_filters.specs.DateSpelling.{zoned_clock}
use Rattle.liquid_filters.specs.Dates.{as_text}
use Rattle.liquid_filters.specs.Instant.{clock_at}
use Rattle.liquid_filters.proofs.extra.date.print_moved.Goals as goal

pub returns : goal.returns
returns c =
    let there = c.moved-there.ensures ∙ ap (λ h. clock_at (instant (zoned_clock c.args.date.now)) (h *ℤ pos 3600)) (to_z-of_z c.ranges.hours) in
    subst (λ x. Answers view c.print_value.result (as_text (printed x c.args.pattern.now))) there c.print_value.ensures
