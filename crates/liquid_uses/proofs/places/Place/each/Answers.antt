use Rattle.std.proofs.Common.{◌≡◌, true, sym}
use mathlib.Core.Path.{subst}
use Rattle.liquid_meaning.specs.FilterNeeds.{items_each}
use Rattle.liquid_model.proofs.UseViews.{everything_includes}
use Rattle.liquid_uses.specs.inside.Placing.{gives}
use Rattle.liquid_uses.proofs.places.Place.each.Goals as goal

pub returns-in-Whole : goal.returns-in-Whole
returns-in-Whole c = λ u h. subst (λ r. gives r (items_each u) ≡ true) (sym c.in-Whole.is) (everything_includes (items_each u))

pub returns-in-Asked : goal.returns-in-Asked
returns-in-Asked c = λ u h. subst (λ r. gives r (items_each u) ≡ true) (sym c.in-Asked.is) (c.each_of.ensures u h)
