use Rattle.std.proofs.Common.{length, drop, ◌-◌, ◌+◌, ◌≡◌, ◌≤◌, false}
use Rattle.liquid_yaml.specs.Bytes.{state_len}
use Rattle.liquid_yaml.specs.Quotings.{ends_quoting, escape_after}
use Rattle.liquid_yaml.proofs.quoting.quoting_len.Given as goal

abbrev pub invariant-loop-n : goal.invariant-loop-n
invariant-loop-n l = record {
  within : l.n ≤ length l.bytes;
  so_far : state_len (ends_quoting l.quote) (escape_after l.quote) false l.bytes ≡ l.n + state_len (ends_quoting l.quote) (escape_after l.quote) l.is_escaped (drop l.n l.bytes);
}

abbrev pub decreases-loop-n : goal.decreases-loop-n
decreases-loop-n l = length l.bytes - l.n
