use Rattle.std.proofs.Common.{ap, ◌∙◌}
use Rattle.liquid_model.specs.View.{pairs_view}
use Rattle.liquid_core.specs.Held.{map_of}
use Rattle.liquid_site.specs.Steps.{no_contents}
use Rattle.liquid_core.proofs.DataChanges.{no_data}
use Rattle.liquid_site.proofs.site.Site.new.Goals as goal

pub returns-clause-contents : goal.returns-clause-contents
returns-clause-contents c =
    let none = ap (λ es. map_of (pairs_view es)) c.new.ensures.empty ∙ no_data in
    c.with_data.ensures.contents ∙ (λ i. record (no_contents (c.strict-setting.ensures i)) { «data» = none i })
