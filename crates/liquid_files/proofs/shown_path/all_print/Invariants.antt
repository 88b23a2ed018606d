use Rattle.std.proofs.Common.{◌≡◌, true, take}
use Rattle.std.specs.List.{list_all}
use Rattle.liquid_files.specs.ShownPaths.{prints}
use Rattle.liquid_files.proofs.shown_path.all_print.Given as goal

abbrev pub invariant-loop-byte : goal.invariant-loop-byte
invariant-loop-byte l = list_all prints (take l.byte-index l.bytes) ≡ true
