use Rattle.std.proofs.Common.{length, drop, ◌-◌, ◌+◌, ◌≡◌, ◌≤◌}
use Rattle.std.specs.List.{prefix_len}
use Rattle.liquid_yaml.specs.Lines.{in_quoted_key}
use Rattle.liquid_yaml.proofs.line.quoted_key_len.Given as goal

abbrev pub invariant-loop-n : goal.invariant-loop-n
invariant-loop-n l = record { within : l.n ≤ length l.bytes; so_far : prefix_len (in_quoted_key l.quote) l.bytes ≡ l.n + prefix_len (in_quoted_key l.quote) (drop l.n l.bytes) }

abbrev pub decreases-loop-n : goal.decreases-loop-n
decreases-loop-n l = length l.bytes - l.n
