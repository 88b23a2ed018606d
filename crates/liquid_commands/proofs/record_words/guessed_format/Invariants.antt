use Rattle.std.proofs.Common.{◌≡◌, drop}
use Rattle.liquid_commands.specs.RecordWords.{guessed_format}
use Rattle.liquid_commands.proofs.record_words.guessed_format.Given as goal

-- what is left says the same as the whole
abbrev pub invariant-loop-byte : goal.invariant-loop-byte
invariant-loop-byte l = guessed_format (drop l.byte-index l.front) ≡ guessed_format l.front
