use Rattle.std.proofs.Common.{sym, ap, ◌∙◌, get_or}
use Rattle.liquid_model.specs.Data.{nil}
use Rattle.liquid_model.specs.View.{view}
use Rattle.liquid_model.proofs.Views.{view-Array, list_of_view}
use Rattle.liquid_evaluation.specs.Ranges.{value_item}
use Rattle.liquid_evaluation.proofs.range.value_item.Goals as goal

pub returns-in-Array : goal.returns-in-Array
returns-in-Array c =
    c.item_at.ensures ∙ ap (λ ds. get_or ds c.args.place nil) (sym (list_of_view c.in-Array.items.items))
    ∙ ap (λ d. value_item d c.args.place) (sym (view-Array c.in-Array.items)) ∙ ap (λ v. value_item (view v) c.args.place) (sym c.in-Array.is)
