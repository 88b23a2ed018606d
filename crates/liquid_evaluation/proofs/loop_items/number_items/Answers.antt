use Rattle.std.proofs.Common.{w64, sym, ◌∙◌}
use Rattle.std.proofs.lemmas.Int.{to_z-of_z}
use Rattle.std.proofs.lemmas.Result.{err_from_is_err_and}
use Rattle.liquid_evaluation.proofs.ItemPlaces.{count_is, numbers_refused}
use Rattle.liquid_evaluation.proofs.Ranges.{numbers_count}
use Rattle.liquid_evaluation.proofs.loop_items.number_items.Goals as goal

pub returns-in_err-count-clause-items : goal.returns-in_err-count-clause-items
returns-in_err-count-clause-items c =
    let p = err_from_is_err_and c.from_residual.result c.from_residual.ensures.1 in
    rw (p.1, p.2) (numbers_refused c.in_err-count.field-0.0.kind c.args.first c.args.last _ _ c.count_to.result
    (to_z-of_z w64 c.args.first c.ranges.first) (to_z-of_z w64 c.args.last c.ranges.last) c.count_to.ensures c.in_err-count.ensures.value)

pub returns-clause-count : goal.returns-clause-count
returns-clause-count c =
    count_is c.count_to.result c.in_ok-count.count c.in_ok-count.ensures.value ∙ c.count_to.ensures ∙ sym (numbers_count _ _)
