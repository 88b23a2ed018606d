use Rattle.std.proofs.Common.{◌≡◌, true, drop}
use Rattle.liquid_commands.specs.Words.{leaves_folder}
use Rattle.liquid_commands.proofs.words.leaves_folder.Given as goal

-- what is left leaves the folder exactly where the whole does
abbrev pub invariant-loop-byte : goal.invariant-loop-byte
invariant-loop-byte l = leaves_folder l.only_dots (drop l.byte-index l.pattern) ≡ leaves_folder true l.pattern
