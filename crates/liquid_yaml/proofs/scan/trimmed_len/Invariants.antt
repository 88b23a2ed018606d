use Rattle.std.proofs.Common.{◌≡◌, ◌+◌, ◌≤◌, ◌<◌, length, take, get_or, true}
use Rattle.std.specs.List.{suffix_len}
use Rattle.liquid_yaml.specs.Bytes.{is_trailing}
use Rattle.liquid_yaml.proofs.scan.trimmed_len.Given as goal

abbrev pub invariant-loop-n : goal.invariant-loop-n
invariant-loop-n l = record {
  within : l.n ≤ length l.bytes;
  so_far : l.n + suffix_len is_trailing l.bytes ≡ length l.bytes + suffix_len is_trailing (take l.n l.bytes);
  ends : l.n < length l.bytes → is_trailing (get_or l.bytes l.n 0) ≡ true;
}

abbrev pub decreases-loop-n : goal.decreases-loop-n
decreases-loop-n l = l.n
