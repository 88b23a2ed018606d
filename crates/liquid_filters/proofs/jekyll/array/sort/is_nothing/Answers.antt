use Rattle.std.proofs.Common.{◌==◌, ◌∙◌, length, ap, sym}
use Rattle.liquid_filters.proofs.jekyll.array.sort.is_nothing.Goals as goal
use Rattle.liquid_model.proofs.Views.{items_length}

pub returns : goal.returns
returns c = c.is_empty.ensures ∙ ap (λ n. n == 0) (sym (items_length c.sequence.result.now)) ∙ ap (λ ds. length ds == 0) c.sequence.ensures
