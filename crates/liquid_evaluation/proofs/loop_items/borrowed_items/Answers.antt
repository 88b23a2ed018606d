use Rattle.std.proofs.Common.{◌∙◌}
use Rattle.liquid_evaluation.proofs.ItemPlaces.{borrowed_list}
use Rattle.liquid_evaluation.proofs.loop_items.borrowed_items.Goals as goal

pub returns-in_ok-count-in-Array-clause-items : goal.returns-in_ok-count-in-Array-clause-items
returns-in_ok-count-in-Array-clause-items c =
    borrowed_list c.args.value.now c.in-Array.items c.as_slice.result.now c.len.result c.in_ok-count-in-Array.count c.in-Array.is c.as_slice.ensures.value (c.len.ensures ∙ c.in-Array.items.ok.0) c.in_ok-count-in-Array.ensures.value
