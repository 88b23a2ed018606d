use Rattle.std.proofs.Common.{take}
use Rattle.std.specs.Prelude.{All}
use Rattle.liquid_json.proofs.ScriptMarks.{IsPlain}
use Rattle.liquid_json.proofs.script_text.plain_len.Given as goal

abbrev pub invariant-loop-i : goal.invariant-loop-i
invariant-loop-i l = All IsPlain (take l.i l.bytes)
