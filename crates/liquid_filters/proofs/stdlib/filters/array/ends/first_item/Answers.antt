use Rattle.std.proofs.Common.{◌∙◌, ap, subst, option_map}
use Rattle.liquid_model.proofs.Views.{view_of_ref}
use Rattle.liquid_model.specs.Answer.{IsValueOrMemory}
use Rattle.liquid_model.specs.View.{view}
use Rattle.liquid_filters.specs.Ends.{or_nil}
use Rattle.liquid_filters.proofs.Ends.{item_at_view}
use Rattle.liquid_filters.proofs.stdlib.filters.array.ends.first_item.Goals as goal

pub returns : goal.returns
returns c =
    let e = view_of_ref c.first.result ∙ ap (λ o. option_map view o) c.first.ensures.value ∙ item_at_view c.args.items.now 0 in
    subst (λ o. IsValueOrMemory view c.item_or_nil.result (or_nil o)) e c.item_or_nil.ensures
