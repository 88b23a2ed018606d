use Rattle.std.proofs.Common.{get_or, sym, ap, ◌∙◌, arith}
use Rattle.liquid_lexer.specs.Styles.{in_tag_text}
use Rattle.liquid_model.proofs.Runs.{after_byte, run_more, run_done}
use Rattle.liquid_lexer.proofs.style.text_len.Goals as goal

pub loop-n-preserved : goal.loop-n-preserved
loop-n-preserved c =
    let bs = c.args.bytes.now in
    let n = c.loop-n.n in
    record { within = omega arith; so_far = run_more in_tag_text bs n c.loop-n-test.true c.loop-n.invariant.so_far (sym (ap (in_tag_text (get_or bs n 0)) (after_byte bs n)) ∙ sym c.in_tag_text.ensures ∙ c.if-in_tag_text.true) }

pub returns-else-in_tag_text : goal.returns-else-in_tag_text
returns-else-in_tag_text c =
    let bs = c.args.bytes.now in
    let n = c.loop-n.n in
    run_done in_tag_text bs n c.loop-n-test.true c.loop-n.invariant.so_far (sym (ap (in_tag_text (get_or bs n 0)) (after_byte bs n)) ∙ sym c.in_tag_text.ensures ∙ c.if-in_tag_text.false)
