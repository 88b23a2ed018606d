use Rattle.std.proofs.Common.{rules, ap, not, arith}
use Rattle.std.proofs.lemmas.Bool.{ne_eqb}
use Rattle.liquid_model.specs.Bytes.{not_quote}
use Rattle.liquid_model.proofs.Runs.{run_more, run_done}
use Rattle.liquid_model.proofs.scan.unquoted_len.Goals as goal

pub loop-n-preserved : goal.loop-n-preserved
loop-n-preserved c = record { within = omega arith; so_far = run_more (not_quote c.args.quote) c.args.bytes.now c.loop-n.n c.loop-n-test.true c.loop-n.invariant.so_far (ap not (ne_eqb _ c.args.quote c.if-bytes-n.true)) }

pub returns-else-bytes-n : goal.returns-else-bytes-n
returns-else-bytes-n c = run_done (not_quote c.args.quote) c.args.bytes.now c.loop-n.n c.loop-n-test.true c.loop-n.invariant.so_far (search rules)
