use Rattle.std.proofs.Common.{◌≡◌, drop}
use Rattle.liquid_data.specs.Braces.{after_all}
use Rattle.liquid_data.proofs.braces.Braces.after_all.Given as goal

-- after what is left it is the same place
abbrev pub invariant-loop-byte : goal.invariant-loop-byte
invariant-loop-byte l = after_all l.braces (drop l.byte-index l.bytes) ≡ after_all l.fn.self l.bytes
