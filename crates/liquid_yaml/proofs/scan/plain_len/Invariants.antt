use Rattle.std.proofs.Common.{length, drop, ◌-◌, ◌+◌, ◌≡◌, ◌≤◌}
use Rattle.liquid_model.specs.Front.{run_len}
use Rattle.liquid_yaml.specs.Bytes.{in_plain}
use Rattle.liquid_yaml.proofs.scan.plain_len.Given as goal

abbrev pub invariant-loop-n : goal.invariant-loop-n
invariant-loop-n l = record { within : l.n ≤ length l.bytes; so_far : run_len in_plain l.bytes ≡ l.n + run_len in_plain (drop l.n l.bytes) }

abbrev pub decreases-loop-n : goal.decreases-loop-n
decreases-loop-n l = length l.bytes - l.n
