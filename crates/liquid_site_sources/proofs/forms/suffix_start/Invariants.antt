use Rattle.std.proofs.Common.{◌≡◌, ◌+◌, ◌≤◌, length, take}
use Rattle.std.specs.List.{suffix_len}
use Rattle.liquid_site_sources.specs.SourceForms.{in_suffix}
use Rattle.liquid_site_sources.proofs.forms.suffix_start.Given as goal

abbrev pub invariant-loop-n : goal.invariant-loop-n
invariant-loop-n l = record {
  within : l.n ≤ length l.bytes;
  so_far : l.n + suffix_len in_suffix l.bytes ≡ length l.bytes + suffix_len in_suffix (take l.n l.bytes);
}

abbrev pub decreases-loop-n : goal.decreases-loop-n
decreases-loop-n l = l.n
