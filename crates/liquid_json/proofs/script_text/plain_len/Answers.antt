use Rattle.std.proofs.Common.{rules}
use Rattle.std.proofs.lemmas.List.Elements.{All-more}
use Rattle.liquid_json.proofs.ScriptMarks.{IsPlain}
use Rattle.liquid_json.proofs.script_text.plain_len.Goals as goal

pub loop-i-preserved : goal.loop-i-preserved
loop-i-preserved c = All-more IsPlain c.args.bytes.now c.loop-i.i 0 c.loop-i-test.true c.loop-i.invariant (search rules)
