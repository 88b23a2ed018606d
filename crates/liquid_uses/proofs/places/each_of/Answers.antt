use Rattle.std.proofs.Common.{◌≡◌, true, sym, ap, ◌∙◌}
use mathlib.Core.Path.{subst}
use Rattle.liquid_meaning.specs.FilterNeeds.{items_each}
use Rattle.liquid_model.specs.Uses.{includes}
use Rattle.liquid_model.specs.UseViews.{use_view}
use Rattle.liquid_model.proofs.UseViews.{everything_includes, view-Everything}
use Rattle.liquid_uses.proofs.places.each_of.Goals as goal

pub returns-in-Everything : goal.returns-in-Everything
returns-in-Everything c = λ u h. subst (λ v. includes v (items_each u) ≡ true) (sym (ap use_view c.in-Everything.is ∙ view-Everything)) (everything_includes (items_each u))
