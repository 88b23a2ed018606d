use Rattle.std.proofs.Common.{◌≡◌, suc, drop, get_or, true, false, not, ◌&&◌, sym, ap, ◌∙◌, arith}
use Rattle.std.proofs.lemmas.Bool.{ne_eqb}
use Rattle.liquid_model.specs.Bytes.{plain, opens}
use Rattle.liquid_model.proofs.Runs.{after_byte, run_more, run_done}
use Rattle.liquid_lexer.proofs.scan.plain_len.Goals.{then-bytes-n-ne123, else-bytes-n-ne123}
use Rattle.liquid_lexer.proofs.scan.plain_len.Goals as goal

pub loop-n-preserved : goal.loop-n-preserved
unfolding plain
loop-n-preserved c =
    let bs = c.args.bytes.now in
    let n = c.loop-n.n in
    let on : plain (get_or bs n 0) (drop (suc n) bs) ≡ true = elim c.if-bytes-n-ne123.branch [
      | then-bytes-n-ne123 w ↦ ap (λ t. not (t && opens (drop (suc n) bs))) (ne_eqb _ 123 w.if-bytes-n-ne123.true)
      | else-bytes-n-ne123 w ↦ sym (ap (plain (get_or bs n 0)) (after_byte bs n)) ∙ sym w.is_plain.ensures ∙ sym w.value-is ∙ c.if-is_plain.true
    ] in
    record { within = omega arith; so_far = run_more plain bs n c.loop-n-test.true c.loop-n.invariant.so_far on }

pub returns-else-is_plain : goal.returns-else-is_plain
unfolding plain
returns-else-is_plain c =
    let bs = c.args.bytes.now in
    let n = c.loop-n.n in
    let off : plain (get_or bs n 0) (drop (suc n) bs) ≡ false = elim c.if-bytes-n-ne123.branch [
      | then-bytes-n-ne123 w ↦ (let e : true ≡ false = sym (w.value-is ∙ ap not (ne_eqb _ 123 w.if-bytes-n-ne123.true)) ∙ c.if-is_plain.false in absurd cc)
      | else-bytes-n-ne123 w ↦ sym (ap (plain (get_or bs n 0)) (after_byte bs n)) ∙ sym w.is_plain.ensures ∙ sym w.value-is ∙ c.if-is_plain.false
    ] in
    run_done plain bs n c.loop-n-test.true c.loop-n.invariant.so_far off
