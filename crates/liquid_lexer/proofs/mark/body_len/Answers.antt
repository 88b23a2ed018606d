use Rattle.std.proofs.Common.{◌≡◌, length, ℕ, ◌<◌, List, suc, drop, get_or, true, false, not, sym, ap, ◌∙◌, arith, drop-cons}
use Rattle.std.proofs.lemmas.Bool.{ne_eqb}
use Rattle.liquid_lexer.specs.SourceReading.{in_body, goes_on}
use Rattle.liquid_lexer.proofs.MarkCuts.{goes_over, in_body_is}
use Rattle.liquid_model.proofs.Runs.{run_more, run_done}
use Rattle.liquid_lexer.proofs.mark.body_len.Goals.{then-bytes-n-ne123, else-bytes-n-ne123}
use Rattle.liquid_lexer.proofs.mark.body_len.Goals as goal

pub loop-n-preserved : goal.loop-n-preserved
loop-n-preserved c =
    let bs = c.args.text.now in
    let n = c.loop-n.n in
    let same : c.as_bytes-bytes.result.now ≡ bs = c.as_bytes-bytes.ensures.value in
    let test = c.loop-n-test.true in
    let len = ap (length {A = ℕ}) same in
    let within : n < length bs = omega (arith, test, len) in
    let on : in_body c.args.body (get_or bs n 0) (drop (suc n) bs) ≡ true = elim c.if-bytes-n-ne123.branch [
      | then-bytes-n-ne123 w ↦ goes_over c.args.body (get_or bs n 0) (drop (suc n) bs) (λ e. w.if-bytes-n-ne123.true (ap (λ (l : List ℕ). get_or l n 0) same ∙ e))
      | else-bytes-n-ne123 w ↦ in_body_is c.args.body (get_or bs n 0) (drop (suc n) bs) ∙ ap (goes_on c.args.body) (sym (w.range_from.ensures.value ∙ drop-cons bs n 0 within)) ∙ sym w.goes_on.ensures ∙ sym w.value-is ∙ c.if-goes_on.true
    ] in
    record { within = omega (arith, within); so_far = run_more (in_body c.args.body) bs n within c.loop-n.invariant.so_far on }

pub returns-else-goes_on : goal.returns-else-goes_on
returns-else-goes_on c =
    let bs = c.args.text.now in
    let n = c.loop-n.n in
    let same : c.as_bytes-bytes.result.now ≡ bs = c.as_bytes-bytes.ensures.value in
    let test = c.loop-n-test.true in
    let len = ap (length {A = ℕ}) same in
    let within : n < length bs = omega (arith, test, len) in
    let over : in_body c.args.body (get_or bs n 0) (drop (suc n) bs) ≡ false = elim c.if-bytes-n-ne123.branch [
      | then-bytes-n-ne123 w ↦ (let e : true ≡ false = sym (w.value-is ∙ ap not (ne_eqb _ 123 w.if-bytes-n-ne123.true)) ∙ c.if-goes_on.false in absurd cc)
      | else-bytes-n-ne123 w ↦ in_body_is c.args.body (get_or bs n 0) (drop (suc n) bs) ∙ ap (goes_on c.args.body) (sym (w.range_from.ensures.value ∙ drop-cons bs n 0 within)) ∙ sym w.goes_on.ensures ∙ sym w.value-is ∙ c.if-goes_on.false
    ] in
    run_done (in_body c.args.body) bs n within c.loop-n.invariant.so_far over
