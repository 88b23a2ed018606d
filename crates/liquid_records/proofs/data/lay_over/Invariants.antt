use Rattle.std.proofs.Common.{◌≡◌, List, ◌++◌}
use Rattle.liquid_model.specs.Maps.{merged}
use Rattle.liquid_model.specs.View.{pairs_view}
use Rattle.liquid_model.proofs.Views.{Entry}
use Rattle.liquid_core.specs.Held.{held, map_of}
use Rattle.liquid_records.specs.inside.Covered.{AreThere, covered_view, uncovered}
use Rattle.liquid_records.proofs.data.lay_over.Given as goal

-- the members so far are over the data, which what they covered gives back
abbrev pub invariant-loop-name : goal.invariant-loop-name
invariant-loop-name l =
    (done : List Entry) × (l.fn.members.entries ≡ done ++ l.name-iterator) × (held l.«data» ≡ merged (map_of (pairs_view done)) (held l.initial.«data»))
    × (uncovered (covered_view l.covered.items) (held l.«data») ≡ held l.initial.«data») × AreThere (covered_view l.covered.items) (held l.«data»)
