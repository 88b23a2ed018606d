use Rattle.std.proofs.Common.{◌≡◌, false, take}
use Rattle.std.specs.List.{list_any}
use Rattle.liquid_commands.specs.Words.{is_path_byte}
use Rattle.liquid_commands.proofs.tips.has_path_byte.Given as goal

abbrev pub invariant-loop-byte : goal.invariant-loop-byte
invariant-loop-byte l = list_any is_path_byte (take l.byte-index l.bytes) ≡ false
