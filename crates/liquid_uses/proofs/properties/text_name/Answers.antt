use Rattle.std.proofs.Common.{◌≡◌, false, codes, sym, ap, ◌∙◌}
use mathlib.Core.Path.{subst}
use Rattle.liquid_model.specs.Data.{text}
use Rattle.liquid_model.specs.Texts.{same_text}
use Rattle.liquid_model.specs.View.{view}
use Rattle.liquid_model.proofs.Views.{view-Text}
use Rattle.liquid_uses.proofs.PropertyNames.{match_more}
use Rattle.liquid_uses.proofs.properties.text_name.Goals as goal

pub returns-in-Text : goal.returns-in-Text
returns-in-Text c =
    match_more (λ n. (n.now ≡ c.as_str.result.now) × (same_text c.as_str.result.now (codes "size") ≡ false)) (λ n. (view c.args.value.now ≡ text n.now) × (same_text n.now (codes "size") ≡ false))
    (λ n is. (ap view c.in-Text.is ∙ view-Text c.in-Text.name ∙ ap text (sym c.as_str.ensures.value ∙ sym is.0), subst (λ t. same_text t (codes "size") ≡ false) (sym is.0) is.1)) c.no_length.result c.no_length.ensures
