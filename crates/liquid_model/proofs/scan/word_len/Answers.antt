use Rattle.std.proofs.Common.{get_or, sym, ap, ◌∙◌, arith}
use Rattle.liquid_model.specs.Bytes.{in_word}
use Rattle.liquid_model.proofs.Runs.{after_byte, run_more, run_done}
use Rattle.liquid_model.proofs.scan.word_len.Goals as goal

pub loop-n-preserved : goal.loop-n-preserved
loop-n-preserved c =
    let bs = c.args.bytes.now in
    let n = c.loop-n.n in
    record { within = omega arith; so_far = run_more in_word bs n c.loop-n-test.true c.loop-n.invariant.so_far (sym (ap (in_word (get_or bs n 0)) (after_byte bs n)) ∙ sym c.in_word.ensures ∙ c.if-in_word.true) }

pub returns-else-in_word : goal.returns-else-in_word
returns-else-in_word c =
    let bs = c.args.bytes.now in
    let n = c.loop-n.n in
    run_done in_word bs n c.loop-n-test.true c.loop-n.invariant.so_far (sym (ap (in_word (get_or bs n 0)) (after_byte bs n)) ∙ sym c.in_word.ensures ∙ c.if-in_word.false)
