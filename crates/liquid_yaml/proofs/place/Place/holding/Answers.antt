use Rattle.std.proofs.Common.{ap, sym, ◌∙◌}
use Rattle.liquid_model.specs.Data.{array}
use Rattle.liquid_model.specs.View.{view, items_view}
use Rattle.liquid_model.proofs.Views.{view-Array}
use Rattle.liquid_yaml.specs.Places.{around_view, holding}
use Rattle.liquid_yaml.proofs.Items.{items_push}
use Rattle.liquid_yaml.proofs.place.Place.holding.Goals as goal

pub returns-in_ok-push-in-Item : goal.returns-in_ok-push-in-Item
returns-in_ok-push-in-Item c =
    view-Array c.push.new.self
    ∙ ap array (ap items_view c.in_ok-push-in-Item.ensures.items ∙ items_push c.in-Item.list.items.items c.args.value)
    ∙ ap (λ p. holding (around_view p) (view c.args.value)) (sym c.in-Item.is)
