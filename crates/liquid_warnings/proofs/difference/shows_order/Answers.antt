use Rattle.std.proofs.Common.{sym, ap, ◌∙◌}
use Rattle.std.specs.Prelude.{nat_le}
use Rattle.liquid_model.specs.View.{view}
use Rattle.liquid_model.proofs.Views.{pairs_len_view, view-Object}
use Rattle.liquid_warnings.specs.DataDifferences.{shows_order}
use Rattle.liquid_warnings.proofs.difference.shows_order.Goals as goal

pub returns-in-Object : goal.returns-in-Object
returns-in-Object c =
    ap (nat_le 2) (c.len.ensures.len ∙ sym (pairs_len_view c.in-Object.pairs.entries))
    ∙ ap shows_order (sym (view-Object c.in-Object.pairs)) ∙ ap (λ v. shows_order (view v)) (sym c.in-Object.is)
