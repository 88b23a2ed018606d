use Rattle.std.proofs.Common.{◌≡◌, ◌+◌, ◌-◌, ◌^◌, ◌≤◌, drop}
use Rattle.liquid_syntax.specs.Flats.{arm_values}
use Rattle.liquid_engine.specs.inside.NodeTurns.{listed_values, counted_turns}
use Rattle.liquid_engine.proofs.node_turns.values_of.Given as goal

abbrev pub invariant-loop-arm : goal.invariant-loop-arm
invariant-loop-arm l = record {
  sums : counted_turns (listed_values (arm_values l.arms)) ≡ counted_turns (l.count + listed_values (arm_values (drop l.arm-index l.arms)));
  fits : l.count ≤ 2 ^ 64 - 1;
}
