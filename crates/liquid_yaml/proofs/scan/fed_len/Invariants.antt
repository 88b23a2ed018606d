use Rattle.std.proofs.Common.{◌≡◌, ◌+◌, ◌≤◌, ◌<◌, length, take, get_or, true, eqb}
use Rattle.std.specs.List.{suffix_len}
use Rattle.liquid_yaml.proofs.scan.fed_len.Given as goal

abbrev pub invariant-loop-n : goal.invariant-loop-n
invariant-loop-n l = record {
  within : l.n ≤ length l.bytes;
  so_far : l.n + suffix_len (λ b. eqb b 10) l.bytes ≡ length l.bytes + suffix_len (λ b. eqb b 10) (take l.n l.bytes);
  ends : l.n < length l.bytes → eqb (get_or l.bytes l.n 0) 10 ≡ true;
}

abbrev pub decreases-loop-n : goal.decreases-loop-n
decreases-loop-n l = l.n
