use Rattle.std.proofs.Common.{map, w64, ap, ◌∙◌}
use Rattle.std.proofs.lemmas.Int.{to_z-of_z}
use Rattle.liquid_model.specs.View.{view}
use Rattle.liquid_filters.specs.Slice.{items_part}
use Rattle.liquid_filters.proofs.Views.{view_part}
use Rattle.liquid_filters.proofs.stdlib.filters.slice.part.Goals as goal

pub returns-in_ok-items_part-in-Array : goal.returns-in_ok-items_part-in-Array
returns-in_ok-items_part-in-Array c =
    view_part c.args.offset c.args.count c.args.input.now c.in-Array.items c.in_ok-items_part-in-Array.field-0 c.in-Array.is
    (c.in_ok-items_part-in-Array.ensures ∙ ap (λ z. items_part z c.args.count (map view c.deref.result.now)) (to_z-of_z w64 c.args.offset c.ranges.offset)
    ∙ ap (λ vs. items_part c.args.offset c.args.count (map view vs)) c.deref.ensures.value)
