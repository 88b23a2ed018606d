use Rattle.std.proofs.Common.{length, drop, ◌-◌, ◌+◌, ◌≡◌, ◌≤◌}
use Rattle.liquid_yaml.specs.Bytes.{state_len}
use Rattle.liquid_yaml.specs.Flows.{first_spot, spot_after, stops_flow}
use Rattle.liquid_yaml.proofs.flow_parts.flow_len.Given as goal

abbrev pub invariant-loop-n : goal.invariant-loop-n
invariant-loop-n l = record {
  within : l.n ≤ length l.bytes;
  so_far : state_len (stops_flow l.is_whole) spot_after first_spot l.bytes ≡ l.n + state_len (stops_flow l.is_whole) spot_after l.spot (drop l.n l.bytes);
}

abbrev pub decreases-loop-n : goal.decreases-loop-n
decreases-loop-n l = length l.bytes - l.n
