use Rattle.std.proofs.Common.{◌≡◌, length}
use Rattle.liquid_core.specs.Held.{held}
use Rattle.liquid_records.specs.inside.Covered.{AreThere, covered_view, uncovered}
use Rattle.liquid_records.proofs.data.take_off.Given as goal

-- what is left of what was covered gives back what all of it does
abbrev pub invariant-loop-name : goal.invariant-loop-name
invariant-loop-name l =
    (uncovered (covered_view l.left.items) (held l.«data») ≡ uncovered (covered_view l.fn.covered.items) (held l.initial.«data»)) × AreThere (covered_view l.left.items) (held l.«data»)

abbrev pub decreases-loop-name : goal.decreases-loop-name
decreases-loop-name l = length l.left.items
