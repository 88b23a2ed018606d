use Rattle.std.proofs.Common.{◌≡◌, true, take}
use Rattle.std.specs.List.{list_all}
use Rattle.liquid_commands.specs.Words.{is_plain_byte}
use Rattle.liquid_commands.proofs.tips.are_plain.Given as goal

abbrev pub invariant-loop-byte : goal.invariant-loop-byte
invariant-loop-byte l = list_all is_plain_byte (take l.byte-index l.bytes) ≡ true
