use Rattle.std.proofs.Common.{codes, refl, ap, ◌∙◌, subst}
use Rattle.liquid_model.specs.Find.{value_at}
use Rattle.liquid_model.specs.Uses.{Alike, use_at}
use Rattle.liquid_model.specs.UseViews.{uses_view}
use Rattle.liquid_filter_sets.specs.Conversions.{found_in}
use Rattle.liquid_filter_sets.proofs.SettingUses.{sees_text}
use Rattle.liquid_filter_sets.proofs.setting_uses.site_uses.Goals as goal

pub returns-clause-site : goal.returns-clause-site
returns-clause-site c =
    let U = uses_view c.add-2.new.uses in
    let asked = c.in_ok-add-2.ensures.added (codes "site") in
    let table = c.in_ok-add-2.ensures.added (codes "conversions") ∙ c.in_ok-add.ensures.added (codes "conversions") ∙ c.whole.ensures in
    record {
      address = sees_text U (codes "site") (codes "url") (λ ds. refl) (ap (use_at (codes "url")) asked ∙ c.in_ok-site.ensures.one);
      base = sees_text U (codes "site") (codes "baseurl") (λ ds. refl) (ap (use_at (codes "baseurl")) asked ∙ c.in_ok-site.ensures.other);
      conversions = λ name ps qs a. ap (found_in name) (subst (λ u. Alike u (value_at (codes "conversions") ps) (value_at (codes "conversions") qs)) table (a (codes "conversions")));
    }
