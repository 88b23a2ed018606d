use Rattle.std.proofs.Common.{◌≡◌, true, sym, ap, ◌∙◌}
use mathlib.Core.Path.{subst}
use Rattle.liquid_model.specs.Uses.{includes, no_fields, parts, up_to}
use Rattle.liquid_model.specs.UseViews.{use_view}
use Rattle.liquid_model.proofs.UseViews.{everything_includes, view-Everything}
use Rattle.liquid_uses.specs.inside.Placing.{option_use}
use Rattle.liquid_uses.proofs.places.asks_each.Goals as goal

pub returns-in-Everything : goal.returns-in-Everything
returns-in-Everything c = λ h.
    let each = parts no_fields (up_to c.args.limit (option_use c.args.other)) in
    subst (λ u. includes u each ≡ true) (sym (ap use_view c.in-Everything.is ∙ view-Everything)) (everything_includes each)
