use Rattle.std.proofs.Common.{Ok, sym, ap, ◌∙◌}
use Rattle.liquid_model.specs.View.{view}
use Rattle.liquid_model.proofs.Views.{view-Array, view-Object, items_length}
use Rattle.liquid_evaluation.specs.Ranges.{value_count}
use Rattle.liquid_evaluation.proofs.RangeParts.{pairs_length}
use Rattle.liquid_evaluation.proofs.range.value_count.Goals as goal

pub returns-in-Array-clause-value : goal.returns-in-Array-clause-value
returns-in-Array-clause-value c =
    ap (λ v. value_count (view v)) c.in-Array.is ∙ ap value_count (view-Array c.in-Array.items)
    ∙ ap Ok (items_length c.in-Array.items.items ∙ sym (c.len.ensures ∙ c.in-Array.items.ok.0))

pub returns-in-Object-clause-value : goal.returns-in-Object-clause-value
returns-in-Object-clause-value c =
    ap (λ v. value_count (view v)) c.in-Object.is ∙ ap value_count (view-Object c.in-Object.pairs)
    ∙ ap Ok (pairs_length c.in-Object.pairs.entries ∙ sym c.len-in-Object.ensures.len)
