use Rattle.std.proofs.Common.{◌≡◌, true, sym}
use mathlib.Core.Path.{subst}
use Rattle.liquid_model.specs.Uses.{no_fields, parts, up_to}
use Rattle.liquid_model.proofs.UseViews.{everything_includes}
use Rattle.liquid_uses.specs.inside.Placing.{gives, option_use}
use Rattle.liquid_uses.proofs.places.Place.includes_each.Goals as goal

pub returns-in-Whole : goal.returns-in-Whole
returns-in-Whole c = λ h. subst (λ r. gives r (parts no_fields (up_to c.args.limit (option_use c.args.other))) ≡ true) (sym c.in-Whole.is) (everything_includes (parts no_fields (up_to c.args.limit (option_use c.args.other))))
