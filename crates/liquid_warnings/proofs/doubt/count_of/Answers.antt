use Rattle.std.proofs.Common.{Some, sym, ap, ◌∙◌}
use Rattle.liquid_model.specs.View.{view}
use Rattle.liquid_model.proofs.Views.{items_len_view, pairs_len_view, view-Array, view-Object}
use Rattle.liquid_warnings.specs.Doubts.{count_of}
use Rattle.liquid_warnings.proofs.doubt.count_of.Goals as goal

pub returns-in-Array : goal.returns-in-Array
returns-in-Array c =
    ap Some (c.len.ensures ∙ c.in-Array.items.ok.0 ∙ sym (items_len_view c.in-Array.items.items))
    ∙ ap count_of (sym (view-Array c.in-Array.items)) ∙ ap (λ v. count_of (view v)) (sym c.in-Array.is)

pub returns-in-Object : goal.returns-in-Object
returns-in-Object c =
    ap Some (c.len-in-Object.ensures.len ∙ sym (pairs_len_view c.in-Object.pairs.entries))
    ∙ ap count_of (sym (view-Object c.in-Object.pairs)) ∙ ap (λ v. count_of (view v)) (sym c.in-Object.is)
