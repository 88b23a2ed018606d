use Rattle.std.proofs.Common.{get_or, drop, suc, sym, ap, ◌∙◌, arith}
use Rattle.liquid_yaml.specs.Bytes.{in_plain}
use Rattle.liquid_model.proofs.Runs.{after_byte, run_more, run_done}
use Rattle.liquid_yaml.proofs.Cuts.{plain_low}
use Rattle.liquid_yaml.proofs.scan.plain_len.Goals as goal

pub loop-n-preserved : goal.loop-n-preserved
loop-n-preserved c =
    let bs = c.args.bytes.now in
    let n = c.loop-n.n in
    record { within = omega arith; so_far = run_more in_plain bs n c.loop-n-test.true c.loop-n.invariant.so_far (sym (ap (in_plain (get_or bs n 0)) (after_byte bs n)) ∙ sym c.in_plain.ensures ∙ c.if-in_plain.true) }

pub returns-else-in_plain-clause-value : goal.returns-else-in_plain-clause-value
returns-else-in_plain-clause-value c =
    let bs = c.args.bytes.now in
    let n = c.loop-n.n in
    run_done in_plain bs n c.loop-n-test.true c.loop-n.invariant.so_far (sym (ap (in_plain (get_or bs n 0)) (after_byte bs n)) ∙ sym c.in_plain.ensures ∙ c.if-in_plain.false)

pub returns-else-in_plain-clause-ends : goal.returns-else-in_plain-clause-ends
returns-else-in_plain-clause-ends c within =
    plain_low (get_or c.args.bytes.now c.loop-n.n 0) (drop (suc c.loop-n.n) c.args.bytes.now) (sym (ap (in_plain (get_or c.args.bytes.now c.loop-n.n 0)) (after_byte c.args.bytes.now c.loop-n.n)) ∙ sym c.in_plain.ensures ∙ c.if-in_plain.false)
