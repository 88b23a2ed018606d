use Rattle.std.proofs.Common.{◌≡◌, take, map}
use Rattle.liquid_model.specs.Cow.{cow_view}
use Rattle.liquid_model.specs.View.{view}
use Rattle.liquid_evaluation.proofs.range.borrowed_values.Given as goal

abbrev pub invariant-loop-item : goal.invariant-loop-item
invariant-loop-item l = map cow_view l.values.items ≡ map view (take l.item-index l.items.items)
