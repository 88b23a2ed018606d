use Rattle.std.proofs.Common.{◌≡◌, [], Some, None, ap, ◌∙◌, rules}
use Rattle.liquid_model.specs.Uses.{parts, up_to}
use Rattle.liquid_model.specs.UseViews.{members_view, use_view}
use Rattle.liquid_model.specs.declared.uses.ItemUse.{roll-ItemUse}
use Rattle.liquid_model.proofs.UseViews.{view-Parts}
use Rattle.liquid_filter_sets.proofs.setting_uses.a_list_of_texts.Goals as goal

pub returns-clause-items : goal.returns-clause-items
returns-clause-items c =
    let none : c.new-2.result.entries ≡ [] = search rules in
    let each : c.in_ok-each.each.value ≡ c.a_text.result = search rules in
    view-Parts c.new-2.result (Some (roll-ItemUse (record { limit = None; each = c.in_ok-each.each }))) ∙ (λ i. parts (members_view (none i)) (up_to None ((ap use_view each ∙ c.a_text.ensures) i)))
