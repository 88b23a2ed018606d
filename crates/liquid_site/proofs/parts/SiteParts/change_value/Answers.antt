use Rattle.std.proofs.Common.{◌≡◌, Bool, OnOk, option_map, length, subst, sym, ap, ◌∙◌}
use Rattle.liquid_model.specs.Answer.{IsValueOrMemory}
use Rattle.liquid_model.specs.View.{view}
use Rattle.liquid_core.specs.Held.{held}
use Rattle.liquid_evaluation.specs.Tree.{Nodes}
use Rattle.liquid_syntax.specs.Templates.{partials_of}
use Rattle.liquid_engine.specs.Pages.{page_by}
use Rattle.liquid_site.specs.PartViews.{site_parts_view}
use Rattle.liquid_core.specs.DataChanges.{with_value}
use Rattle.liquid_site.specs.Steps.{saturated_sum}
use Rattle.liquid_site.specs.inside.Fresh.{selected}
use Rattle.liquid_site.proofs.Untouched.{untouched}
use Rattle.liquid_site.proofs.parts.SiteParts.change_value.Goals as goal

pub exchange_data-requires-clause-untouched : goal.exchange_data-requires-clause-untouched
exchange_data-requires-clause-untouched g c = λ nodes h.
    let s = c.args.self.now in
    ap (λ m. page_by s.setting (partials_of s.partials) m nodes) c.in_ok-data.ensures
    ∙ untouched (site_parts_view s).contents c.args.name.now (option_map view c.args.value) nodes (sym (ap (λ (test : Nodes → Bool). test nodes) c.by_name-selection.ensures) ∙ h)

pub returns-clause-set : goal.returns-clause-set
returns-clause-set g c =
    let contents = (site_parts_view c.args.self.now).contents in
    let meant : record contents { «data» = held c.in_ok-data.«data» } ≡ record contents { «data» = with_value contents.«data» c.args.name.now (option_map view c.args.value) } = λ i. record contents { «data» = c.in_ok-data.ensures i } in
    subst (λ x. IsValueOrMemory (λ u. (site_parts_view c.exchange_data.new.self).contents) c.exchange_data.result x) meant c.exchange_data.ensures.set

pub returns-clause-counted : goal.returns-clause-counted
returns-clause-counted g c =
    let s = c.args.self.now in
    let pages = (site_parts_view s).contents.pages in
    subst (λ (test : Nodes → Bool). OnOk c.exchange_data.result ((site_parts_view c.exchange_data.new.self).rendered ≡ saturated_sum s.rendered (length (selected test pages)))) c.by_name-selection.ensures c.exchange_data.ensures.counted
