use Rattle.std.proofs.Common.{sym, ◌∙◌, arith}
use Rattle.liquid_model.specs.Bytes.{is_white}
use Rattle.liquid_model.proofs.Runs.{run_more, run_done}
use Rattle.liquid_model.proofs.scan.white_len.Goals as goal

pub loop-n-preserved : goal.loop-n-preserved
loop-n-preserved c = record { within = omega arith; so_far = run_more is_white c.args.bytes.now c.loop-n.n c.loop-n-test.true c.loop-n.invariant.so_far (sym c.is_white.ensures ∙ c.if-is_white.true) }

pub returns-else-is_white : goal.returns-else-is_white
returns-else-is_white c = run_done is_white c.args.bytes.now c.loop-n.n c.loop-n-test.true c.loop-n.invariant.so_far (sym c.is_white.ensures ∙ c.if-is_white.false)
