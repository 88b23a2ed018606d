use Rattle.std.proofs.Common.{◌≡◌, cond, string_bytes, ap, ◌∙◌, rules}
use Rattle.liquid_model.specs.Texts.{same_text}
use Rattle.liquid_model.specs.Uses.{use_in}
use Rattle.liquid_model.specs.UseViews.{members_view, use_view}
use Rattle.liquid_model.proofs.UseViews.{use_inserted}
use Rattle.liquid_filter_sets.proofs.setting_uses.add.Goals as goal

pub returns-clause-added : goal.returns-clause-added
returns-clause-added c q =
    let name : string_bytes c.in_ok-from_str.field-0 ≡ c.args.name.now = search rules in
    ap (λ es. use_in q (members_view es)) c.in_ok-insert.ensures.entries ∙ use_inserted q c.args.uses.now.entries c.in_ok-from_str.field-0 c.args.asked
    ∙ ap (λ t. cond (same_text t q) (use_view c.args.asked) (use_in q (members_view c.args.uses.now.entries))) name
