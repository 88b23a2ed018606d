use Rattle.std.proofs.Common.{◌≡◌, ◌++◌, string_bytes}
use Rattle.std.specs.Str.{IsUtf8}
use Rattle.liquid_check.specs.Blanks.{blanked}
use Rattle.liquid_check.proofs.faulty_piece.blanked.Given as goal

abbrev pub invariant-loop-letter : goal.invariant-loop-letter
invariant-loop-letter l = IsUtf8 l.rest.rest.now × (blanked l.text ≡ string_bytes l.out ++ blanked l.rest.rest.now)
