use Rattle.std.proofs.Common.{◌≡◌, true, sym}
use mathlib.Core.Path.{subst}
use Rattle.liquid_model.specs.UseViews.{use_view}
use Rattle.liquid_model.proofs.UseViews.{everything_includes}
use Rattle.liquid_uses.specs.inside.Placing.{gives}
use Rattle.liquid_uses.proofs.places.Place.includes.Goals as goal

pub returns-in-Whole : goal.returns-in-Whole
returns-in-Whole c = subst (λ r. true ≡ gives r (use_view c.args.other.now)) (sym c.in-Whole.is) (sym (everything_includes (use_view c.args.other.now)))
