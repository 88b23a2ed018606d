use Rattle.std.proofs.Common.{rules}
use Rattle.std.proofs.lemmas.List.Elements.{All-more}
use Rattle.liquid_filters.proofs.Escapes.{IsPlain}
use Rattle.liquid_filters.proofs.stdlib.filters.html.escape.plain_len.Goals as goal

pub loop-i-preserved : goal.loop-i-preserved
loop-i-preserved c = All-more IsPlain c.args.bytes.now c.loop-i.i 0 c.loop-i-test.true c.loop-i.invariant (search rules)
