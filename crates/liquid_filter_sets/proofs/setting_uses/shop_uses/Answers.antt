use Rattle.std.proofs.Common.{codes, refl, ap, ◌∙◌, subst}
use Rattle.liquid_model.specs.Find.{value_at}
use Rattle.liquid_model.specs.Uses.{Alike, use_at}
use Rattle.liquid_model.specs.UseViews.{uses_view}
use Rattle.liquid_filter_sets.proofs.SettingUses.{same_texts, sees_text}
use Rattle.liquid_filter_sets.proofs.setting_uses.shop_uses.Goals as goal

pub returns-clause-shop : goal.returns-clause-shop
returns-clause-shop c =
    let U = uses_view c.add-3.new.uses in
    let shop = c.in_ok-add-3.ensures.added (codes "shop") ∙ c.in_ok-add-2.ensures.added (codes "shop") ∙ c.in_ok-add.ensures.added (codes "shop") in
    let collection = c.in_ok-add-3.ensures.added (codes "collection") ∙ c.in_ok-add-2.ensures.added (codes "collection") in
    let tags = c.in_ok-add-3.ensures.added (codes "current_tags") ∙ c.in_ok-tags.ensures.items in
    record {
      money = sees_text U (codes "shop") (codes "money_format") (λ ds. refl) (ap (use_at (codes "money_format")) shop ∙ c.in_ok-shop.ensures.one);
      with_currency = sees_text U (codes "shop") (codes "money_with_currency_format") (λ ds. refl) (ap (use_at (codes "money_with_currency_format")) shop ∙ c.in_ok-shop.ensures.other);
      collection = sees_text U (codes "collection") (codes "handle") (λ ds. refl) (ap (use_at (codes "handle")) collection ∙ c.in_ok-collection.ensures.one);
      tags = λ ps qs a. same_texts _ _ (subst (λ u. Alike u (value_at (codes "current_tags") ps) (value_at (codes "current_tags") qs)) tags (a (codes "current_tags")));
    }
