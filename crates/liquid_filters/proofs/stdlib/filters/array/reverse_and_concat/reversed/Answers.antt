use Rattle.std.proofs.Common.{◌∙◌, ap, map, reverse}
use Rattle.liquid_model.specs.View.{view}
use Rattle.liquid_filters.proofs.Rows.{map_reverse}
use Rattle.liquid_filters.proofs.stdlib.filters.array.reverse_and_concat.reversed.Goals as goal

pub returns : goal.returns
returns c = ap (λ l. map view l) c.reverse.ensures.items ∙ map_reverse view c.in_ok-copies.copies.items ∙ ap reverse c.in_ok-copies.ensures
