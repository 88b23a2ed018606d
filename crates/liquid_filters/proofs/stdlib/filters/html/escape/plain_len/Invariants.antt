use Rattle.std.proofs.Common.{take}
use Rattle.std.specs.Prelude.{All}
use Rattle.liquid_filters.proofs.Escapes.{IsPlain}
use Rattle.liquid_filters.proofs.stdlib.filters.html.escape.plain_len.Given as goal

abbrev pub invariant-loop-i : goal.invariant-loop-i
invariant-loop-i l = All IsPlain (take l.i l.bytes)
