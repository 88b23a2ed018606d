use Rattle.std.proofs.Common.{◌-◌, ◌≤◌}
use Rattle.liquid_core.specs.States.{environment_of}
use Rattle.liquid_syntax.specs.Flats.{Maker, IsForestAt, nodes_of}
use Rattle.liquid_syntax.specs.Forest.{Forest}
use Rattle.liquid_engine.proofs.Choices.{Comes}
use Rattle.liquid_engine.proofs.choice.else_range.Given as goal

abbrev pub invariant-loop-at : goal.invariant-loop-at
invariant-loop-at l = record {
  ordered : l.from ≤ l.at;
  comes : (f : Forest Maker) → IsForestAt l.nodes l.from f l.to → Comes l.nodes (environment_of l.state) (nodes_of f) l.at l.to;
}

abbrev pub decreases-loop-at : goal.decreases-loop-at
decreases-loop-at l = l.to - l.at
