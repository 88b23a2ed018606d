use Rattle.std.proofs.Common.{rules, w64}
use Rattle.std.proofs.lemmas.Int.{to_z-of_z}
use Rattle.std.proofs.lemmas.Result.{err_from_is_err_and}
use mir.Val.{SFits}
use Rattle.liquid_evaluation.specs.Ranges.{range_items}
use Rattle.liquid_evaluation.specs.SourceView.{range_view}
use Rattle.liquid_evaluation.proofs.RangeParts.{count_faulted, list_given, numbers_wanted, numbers_given}
use Rattle.liquid_evaluation.proofs.range.Range.evaluate.Goals as goal

pub numbers-requires : goal.numbers-requires
numbers-requires c =
    let first : SFits w64 c.in-Counted.first = search rules in
    let last : SFits w64 c.in-Counted.last = search rules in
    numbers_wanted c.args.self.now c.in-Counted.first c.in-Counted.last _ _ c.in_ok-count.count c.in-Counted.is
    (to_z-of_z w64 c.in-Counted.first first) (to_z-of_z w64 c.in-Counted.last last) c.in_ok-count.ensures.value

pub returns-in-Counted : goal.returns-in-Counted
returns-in-Counted c =
    let first : SFits w64 c.in-Counted.first = search rules in
    numbers_given c.args.self.now c.in-Counted.first c.in-Counted.last _ c.in_ok-count.count c.numbers.result c.in-Counted.is
    (to_z-of_z w64 c.in-Counted.first first) c.in_ok-count.ensures.value c.numbers.ensures

pub returns-in_err-count : goal.returns-in_err-count
returns-in_err-count c =
    let p = err_from_is_err_and c.from_residual.result c.from_residual.ensures.1 in
    rw (p.1, p.2) (count_faulted c.in_err-count.field-0.0.kind (range_items (range_view c.args.self.now)) c.in_err-count.ensures.value)

pub returns-in-Array : goal.returns-in-Array
returns-in-Array c =
    list_given c.args.self.now c.in-Array.value c.as_value.result.now c.in_ok-count.count c.value_items.result c.in-Array.is c.as_value.ensures c.in_ok-count.ensures.value c.value_items.ensures
