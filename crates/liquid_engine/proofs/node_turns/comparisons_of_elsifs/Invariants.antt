use Rattle.std.proofs.Common.{◌-◌, ◌^◌, ◌≤◌}
use Rattle.liquid_syntax.specs.Flats.{Maker, IsForestAt, nodes_of}
use Rattle.liquid_syntax.specs.Forest.{Forest}
use Rattle.liquid_engine.proofs.NodeTurns.{TurnsLeft}
use Rattle.liquid_engine.proofs.node_turns.comparisons_of_elsifs.Given as goal

-- what the nodes from here to the end have, with the count so far, is what all have
abbrev pub invariant-loop-at : goal.invariant-loop-at
invariant-loop-at l = record {
  left : (f : Forest Maker) → IsForestAt l.nodes l.from f l.to → TurnsLeft l.nodes l.at l.to l.count (nodes_of f);
  fits : l.count ≤ 2 ^ 64 - 1;
}

abbrev pub decreases-loop-at : goal.decreases-loop-at
decreases-loop-at l = l.to - l.at
