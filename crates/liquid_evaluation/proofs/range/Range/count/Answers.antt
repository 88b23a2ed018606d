use Rattle.std.proofs.Common.{rules, w64}
use Rattle.std.proofs.lemmas.Int.{to_z-of_z}
use Rattle.std.proofs.lemmas.Result.{err_from_is_err_and}
use mir.Val.{SFits}
use Rattle.liquid_evaluation.proofs.RangeParts.{array_answer, array_faulted, counted_answer}
use Rattle.liquid_evaluation.proofs.range.Range.count.Goals as goal

pub returns-in-Counted-clause-value : goal.returns-in-Counted-clause-value
returns-in-Counted-clause-value c =
    let first : SFits w64 c.in-Counted.first = search rules in
    let last : SFits w64 c.in-Counted.last = search rules in
    counted_answer c.args.self.now c.in-Counted.first c.in-Counted.last _ _ c.count_to.result c.checked_count-in-Counted.result c.in-Counted.is
    (to_z-of_z w64 c.in-Counted.first first) (to_z-of_z w64 c.in-Counted.last last) c.count_to.ensures c.checked_count-in-Counted.ensures.value

pub returns-in_err-count-in-Array-clause-value : goal.returns-in_err-count-in-Array-clause-value
returns-in_err-count-in-Array-clause-value c =
    let p = err_from_is_err_and c.from_residual.result c.from_residual.ensures.1 in
    rw (p.1, p.2) (array_faulted c.args.self.now c.in-Array.value c.as_value.result.now c.in_err-count-in-Array.field-0.0.kind c.in-Array.is c.as_value.ensures c.in_err-count-in-Array.ensures.value)

pub returns-in_ok-count-in-Array-clause-value : goal.returns-in_ok-count-in-Array-clause-value
returns-in_ok-count-in-Array-clause-value c =
    array_answer c.args.self.now c.in-Array.value c.as_value.result.now c.in_ok-count-in-Array.count c.checked_count.result c.in-Array.is c.as_value.ensures c.in_ok-count-in-Array.ensures.value
    c.checked_count.ensures.value
