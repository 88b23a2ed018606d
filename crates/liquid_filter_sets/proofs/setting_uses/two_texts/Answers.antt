use Rattle.std.proofs.Common.{None, ap, ◌∙◌}
use Rattle.liquid_model.specs.Texts.{same_text}
use Rattle.liquid_model.specs.Uses.{use_at}
use Rattle.liquid_model.proofs.UseViews.{view-Parts}
use Rattle.liquid_filter_sets.proofs.SettingUses.{asked_first, asked_last}
use Rattle.liquid_filter_sets.proofs.setting_uses.two_texts.Goals as goal

pub returns-clause-one : goal.returns-clause-one
returns-clause-one c =
    let one = c.args.one.now in
    ap (use_at one) (view-Parts _ None) ∙ c.in_ok-add-2.ensures.added one
    ∙ asked_first (same_text c.args.other.now one) one _ _ _ c.a_text-2.ensures c.a_text.ensures (c.in_ok-add.ensures.added one)

pub returns-clause-other : goal.returns-clause-other
returns-clause-other c =
    let other = c.args.other.now in
    ap (use_at other) (view-Parts _ None) ∙ c.in_ok-add-2.ensures.added other ∙ asked_last other _ _ c.a_text-2.ensures
