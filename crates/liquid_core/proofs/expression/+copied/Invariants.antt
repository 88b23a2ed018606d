use Rattle.std.proofs.Common.{◌≡◌, take, map}
use Rattle.liquid_core.specs.ExpressionView.{expression_view}
use Rattle.liquid_core.proofs.expression.+copied.Given as goal

abbrev pub invariant-copied_indexes-loop-index : goal.invariant-copied_indexes-loop-index
invariant-copied_indexes-loop-index l = map expression_view l.copies.items ≡ map expression_view (take l.index-index l.index-items)
