use Rattle.std.proofs.Common.{◌≡◌, true, refl, sym, ap, ◌∙◌}
use mathlib.Core.Path.{subst}
use Rattle.liquid_model.specs.UseViews.{use_view}
use Rattle.liquid_model.proofs.UseViews.{view-Nothing, view-Everything, view-Parts}
use Rattle.liquid_uses.specs.inside.Chains.{is_plain}
use Rattle.liquid_uses.proofs.place_pairs.is_plain.Goals as goal

pub returns-in-Nothing : goal.returns-in-Nothing
returns-in-Nothing c = subst (λ u. true ≡ is_plain u) (sym (ap use_view c.in-Nothing.is ∙ view-Nothing)) refl

pub returns-in-Everything : goal.returns-in-Everything
returns-in-Everything c = subst (λ u. true ≡ is_plain u) (sym (ap use_view c.in-Everything.is ∙ view-Everything)) refl

pub returns-in-Parts : goal.returns-in-Parts
returns-in-Parts c = subst (λ u. c.are_plain.result ≡ is_plain u) (sym (ap use_view c.in-Parts.is ∙ view-Parts c.in-Parts.members c.in-Parts.items)) c.are_plain.ensures
