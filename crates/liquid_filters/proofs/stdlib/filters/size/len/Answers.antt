use Rattle.std.proofs.Common.{sym, ap, ◌∙◌}
use Rattle.liquid_model.specs.View.{view}
use Rattle.liquid_model.proofs.Views.{items_len_view, pairs_len_view, view-Array, view-Object}
use Rattle.liquid_filters.specs.Size.{size_of}
use Rattle.liquid_filters.proofs.stdlib.filters.size.len.Goals as goal

pub returns-in-Array : goal.returns-in-Array
returns-in-Array c =
    c.len-in-Array.ensures ∙ c.in-Array.items.ok.0 ∙ sym (items_len_view c.in-Array.items.items)
    ∙ ap size_of (sym (view-Array c.in-Array.items)) ∙ ap (λ v. size_of (view v)) (sym c.in-Array.is)

pub returns-in-Object : goal.returns-in-Object
returns-in-Object c =
    c.len-in-Object.ensures.len ∙ sym (pairs_len_view c.in-Object.pairs.entries)
    ∙ ap size_of (sym (view-Object c.in-Object.pairs)) ∙ ap (λ v. size_of (view v)) (sym c.in-Object.is)
